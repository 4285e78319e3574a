use Rattle.iop_sysclib.proofs.ComparingLaws.{firsts_of_ranges_decide}
use Rattle.iop_sysclib.proofs.laws.firsts_of_ranges_decide.Goals as goal

pub returns : goal.returns
returns c = firsts_of_ranges_decide
