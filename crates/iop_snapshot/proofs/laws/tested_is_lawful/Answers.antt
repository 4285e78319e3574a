use Rattle.iop_snapshot.proofs.Combining.{tested_lawful}
use Rattle.iop_snapshot.proofs.laws.tested_is_lawful.Goals as goal

pub returns : goal.returns
returns g c = tested_lawful
