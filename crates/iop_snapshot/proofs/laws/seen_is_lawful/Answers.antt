use Rattle.iop_snapshot.proofs.Combining.{seen_lawful}
use Rattle.iop_snapshot.proofs.laws.seen_is_lawful.Goals as goal

pub returns : goal.returns
returns g c = seen_lawful
