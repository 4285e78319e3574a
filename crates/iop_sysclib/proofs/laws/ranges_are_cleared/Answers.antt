use Rattle.iop_sysclib.proofs.WritingLaws.{ranges_are_cleared}
use Rattle.iop_sysclib.proofs.laws.ranges_are_cleared.Goals as goal

pub returns : goal.returns
returns c = ranges_are_cleared
