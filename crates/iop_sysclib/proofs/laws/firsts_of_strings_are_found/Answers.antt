use Rattle.iop_sysclib.proofs.FindingLaws.{firsts_of_strings_are_found}
use Rattle.iop_sysclib.proofs.laws.firsts_of_strings_are_found.Goals as goal

pub returns : goal.returns
returns c = firsts_of_strings_are_found
