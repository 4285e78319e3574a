use Rattle.iop_sysclib.proofs.ComparingLaws.{equal_fronts_are_zero}
use Rattle.iop_sysclib.proofs.laws.equal_fronts_are_zero.Goals as goal

pub returns : goal.returns
returns c = equal_fronts_are_zero
