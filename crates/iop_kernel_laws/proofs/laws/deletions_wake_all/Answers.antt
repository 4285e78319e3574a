use Rattle.iop_kernel_laws.proofs.WaitsEnd.Deletions.{deletions_wake_all}
use Rattle.iop_kernel_laws.proofs.laws.deletions_wake_all.Goals as goal

pub returns : goal.returns
returns c = deletions_wake_all
