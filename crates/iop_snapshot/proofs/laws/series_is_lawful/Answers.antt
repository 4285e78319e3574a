use Rattle.iop_snapshot.proofs.Listing.{series_lawful}
use Rattle.iop_snapshot.proofs.laws.series_is_lawful.Goals as goal

pub returns : goal.returns
returns g c = series_lawful
