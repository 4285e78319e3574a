-- What the law of pools that are put back says.
use Rattle.std.specs.Prelude.{◌≡◌, Some}
use Rattle.iop_pools.specs.FixedPools.{FixedPools}
use Rattle.iop_pools.specs.FixedRestoring as fixed_pools
use Rattle.iop_pools.specs.VariablePools.{VariablePools}
use Rattle.iop_pools.specs.VariableRestoring as variable_pools

-- all that stands in a table can be put back, and gives the table again
pub record PoolsAreRestored : Type 0 where
  pub variable : (s : VariablePools) → variable_pools.AreRegular s
      → variable_pools.restored s ≡ Some s
  pub fixed : (s : FixedPools) → fixed_pools.AreRegular s → fixed_pools.restored s ≡ Some s
