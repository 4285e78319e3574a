use Rattle.iop_sysclib.proofs.WritingLaws.{short_strings_are_copied}
use Rattle.iop_sysclib.proofs.laws.short_strings_are_copied.Goals as goal

pub returns : goal.returns
returns c = short_strings_are_copied
