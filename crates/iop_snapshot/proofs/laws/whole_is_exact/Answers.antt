use Rattle.iop_snapshot.proofs.Combining.{whole_exact}
use Rattle.iop_snapshot.proofs.laws.whole_is_exact.Goals as goal

pub returns : goal.returns
returns g c = whole_exact
