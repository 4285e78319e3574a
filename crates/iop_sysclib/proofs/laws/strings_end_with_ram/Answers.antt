use Rattle.iop_sysclib.proofs.FindingLaws.{strings_end_with_ram}
use Rattle.iop_sysclib.proofs.laws.strings_end_with_ram.Goals as goal

pub returns : goal.returns
returns c = strings_end_with_ram
