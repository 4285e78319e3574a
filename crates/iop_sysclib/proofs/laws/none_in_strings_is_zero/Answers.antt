use Rattle.iop_sysclib.proofs.FindingLaws.{none_in_strings_is_zero}
use Rattle.iop_sysclib.proofs.laws.none_in_strings_is_zero.Goals as goal

pub returns : goal.returns
returns c = none_in_strings_is_zero
