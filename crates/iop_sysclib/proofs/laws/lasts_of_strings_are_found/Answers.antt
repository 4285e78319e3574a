use Rattle.iop_sysclib.proofs.FindingLaws.{lasts_of_strings_are_found}
use Rattle.iop_sysclib.proofs.laws.lasts_of_strings_are_found.Goals as goal

pub returns : goal.returns
returns c = lasts_of_strings_are_found
