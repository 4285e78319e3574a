use Rattle.iop_intr.proofs.Keeping.{finishing-zero}
use Rattle.iop_intr.proofs.laws.zero_disables.Goals as goal

pub returns : goal.returns
returns c = finishing-zero
