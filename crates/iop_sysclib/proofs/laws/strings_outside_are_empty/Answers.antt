use Rattle.iop_sysclib.proofs.FindingLaws.{strings_outside_are_empty}
use Rattle.iop_sysclib.proofs.laws.strings_outside_are_empty.Goals as goal

pub returns : goal.returns
returns c = strings_outside_are_empty
