use Rattle.iop_sysclib.proofs.ComparingLaws.{equal_ranges_are_zero}
use Rattle.iop_sysclib.proofs.laws.equal_ranges_are_zero.Goals as goal

pub returns : goal.returns
returns c = equal_ranges_are_zero
