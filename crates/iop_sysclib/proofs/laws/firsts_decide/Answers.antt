use Rattle.iop_sysclib.proofs.CallLaws.{firsts_decide}
use Rattle.iop_sysclib.proofs.laws.firsts_decide.Goals as goal

pub returns : goal.returns
returns c = firsts_decide
