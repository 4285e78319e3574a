use Rattle.iop_saved_kernel.proofs.ComingBack.{cores_back}
use Rattle.iop_saved_kernel.proofs.laws.cores_come_back.Goals as goal

pub returns : goal.returns
returns c = cores_back
