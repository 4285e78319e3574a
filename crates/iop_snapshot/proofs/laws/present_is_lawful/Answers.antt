use Rattle.iop_snapshot.proofs.Combining.{present_lawful}
use Rattle.iop_snapshot.proofs.laws.present_is_lawful.Goals as goal

pub returns : goal.returns
returns g c = present_lawful
