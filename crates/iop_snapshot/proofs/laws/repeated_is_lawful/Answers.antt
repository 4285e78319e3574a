use Rattle.iop_snapshot.proofs.Laying.{repeated_lawful}
use Rattle.iop_snapshot.proofs.laws.repeated_is_lawful.Goals as goal

pub returns : goal.returns
returns g c = repeated_lawful
