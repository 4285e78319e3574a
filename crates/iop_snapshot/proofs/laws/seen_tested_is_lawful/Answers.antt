use Rattle.iop_snapshot.proofs.Combining.{seen_tested_lawful}
use Rattle.iop_snapshot.proofs.laws.seen_tested_is_lawful.Goals as goal

pub returns : goal.returns
returns g c = seen_tested_lawful
