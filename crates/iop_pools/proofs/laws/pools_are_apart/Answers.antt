use Rattle.iop_pools.proofs.LeastPlaces.{pools_apart}
use Rattle.iop_pools.proofs.laws.pools_are_apart.Goals as goal

pub returns : goal.returns
returns c = pools_apart
