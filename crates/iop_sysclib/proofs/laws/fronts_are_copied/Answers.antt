use Rattle.iop_sysclib.proofs.WritingLaws.{fronts_are_copied}
use Rattle.iop_sysclib.proofs.laws.fronts_are_copied.Goals as goal

pub returns : goal.returns
returns c = fronts_are_copied
