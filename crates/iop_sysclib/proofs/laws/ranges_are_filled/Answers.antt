use Rattle.iop_sysclib.proofs.WritingLaws.{ranges_are_filled}
use Rattle.iop_sysclib.proofs.laws.ranges_are_filled.Goals as goal

pub returns : goal.returns
returns c = ranges_are_filled
