use Rattle.iop_sysclib.proofs.CallLaws.{firsts_are_found}
use Rattle.iop_sysclib.proofs.laws.firsts_are_found.Goals as goal

pub returns : goal.returns
returns c = firsts_are_found
