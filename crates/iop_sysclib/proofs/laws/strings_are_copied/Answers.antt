use Rattle.iop_sysclib.proofs.WritingLaws.{strings_are_copied}
use Rattle.iop_sysclib.proofs.laws.strings_are_copied.Goals as goal

pub returns : goal.returns
returns c = strings_are_copied
