use Rattle.iop_sysclib.proofs.CallLaws.{equal_strings_are_zero}
use Rattle.iop_sysclib.proofs.laws.equal_strings_are_zero.Goals as goal

pub returns : goal.returns
returns c = equal_strings_are_zero
