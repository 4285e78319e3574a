use Rattle.iop_saved_kernel.proofs.ReadAgain.{cores_read}
use Rattle.iop_saved_kernel.proofs.laws.cores_are_read.Goals as goal

pub returns : goal.returns
returns c = cores_read
