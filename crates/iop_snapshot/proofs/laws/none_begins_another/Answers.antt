use Rattle.iop_snapshot.proofs.Combining.{none_begins}
use Rattle.iop_snapshot.proofs.laws.none_begins_another.Goals as goal

pub returns : goal.returns
returns g c = none_begins
