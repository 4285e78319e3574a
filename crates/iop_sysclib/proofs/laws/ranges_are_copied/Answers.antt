use Rattle.iop_sysclib.proofs.WritingLaws.{ranges_are_copied}
use Rattle.iop_sysclib.proofs.laws.ranges_are_copied.Goals as goal

pub returns : goal.returns
returns c = ranges_are_copied
