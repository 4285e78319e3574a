use Rattle.iop_pools.proofs.ChangesOne.{pools_change}
use Rattle.iop_pools.proofs.laws.pools_change_one.Goals as goal

pub returns : goal.returns
returns c = pools_change
