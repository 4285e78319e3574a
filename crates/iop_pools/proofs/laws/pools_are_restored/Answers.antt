use Rattle.iop_pools.proofs.RegularPools.{restored}
use Rattle.iop_pools.proofs.laws.pools_are_restored.Goals as goal

pub returns : goal.returns
returns c = restored
