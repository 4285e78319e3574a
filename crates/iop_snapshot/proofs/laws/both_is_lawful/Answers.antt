use Rattle.iop_snapshot.proofs.Combining.{both_lawful}
use Rattle.iop_snapshot.proofs.laws.both_is_lawful.Goals as goal

pub returns : goal.returns
returns g c = both_lawful
