use Rattle.iop_intr.proofs.Keeping.{deliverable-lowest}
use Rattle.iop_intr.proofs.laws.deliverable_is_lowest.Goals as goal

pub returns : goal.returns
returns c = deliverable-lowest
