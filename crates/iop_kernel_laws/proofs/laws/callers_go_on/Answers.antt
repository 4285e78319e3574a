use Rattle.iop_kernel_laws.proofs.Keeping.GoingOn.{callers_go_on}
use Rattle.iop_kernel_laws.proofs.laws.callers_go_on.Goals as goal

pub returns : goal.returns
returns c = callers_go_on
