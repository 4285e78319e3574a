use Rattle.iop_snapshot.proofs.Laying.{items_laid}
use Rattle.iop_snapshot.proofs.laws.items_are_laid.Goals as goal

pub returns : goal.returns
returns c = items_laid
