use Rattle.iop_snapshot.proofs.Listing.{follows_on}
use Rattle.iop_snapshot.proofs.laws.following_is_series.Goals as goal

pub returns : goal.returns
returns g c = follows_on
