-- What the law of memory that is taken says.
use Rattle.std.specs.Prelude.{◌≡◌, ◌↔◌, ℕ, ◌<◌, ◌≤◌, ◌⊎◌, Some, None, Ok, Err}
use Rattle.iop_base.specs.declared.code.Code.{Code}
use Rattle.iop_base.specs.declared.code.TheConstants.Code.{NO_MEMORY, UNKNOWN_FIXED_POOL, UNKNOWN_VARIABLE_POOL, ILLEGAL_SIZE}
use Rattle.iop_objects.specs.Objects.{state_of, waiters_of}
use Rattle.iop_pools.specs.FixedPools as fixed_pools
use Rattle.iop_pools.specs.FixedPools.{FixedPools}
use Rattle.iop_pools.specs.Laws.{IsTakenOf}
use Rattle.iop_pools.specs.Pools.{Pool, place_for}
use Rattle.iop_pools.specs.VariablePools as variable_pools
use Rattle.iop_pools.specs.VariablePools.{VariablePools}

-- memory of a variable pool
module _ (s : VariablePools) (id size : ℕ) (x : Pool) where
  pub record TakesMemory : Type 0 where
    pub place : (place : ℕ) → (variable_pools.takes s id size).0 ≡ Ok place
        → place_for x size ≡ Some place
    pub taken : (place : ℕ) → (variable_pools.takes s id size).0 ≡ Ok place
        → IsTakenOf x size place (state_of (variable_pools.takes s id size).1 id)
    pub illegal : ((variable_pools.takes s id size).0 ≡ Err ILLEGAL_SIZE)
        ↔ ((size ≡ 0) ⊎ (x.size < size))
    -- none is taken, of a size that the pool can have, exactly where there is no place for it
    pub full : ((variable_pools.takes s id size).0 ≡ Err NO_MEMORY)
        ↔ ((0 < size) × (size ≤ x.size) × (place_for x size ≡ None))
    pub refused : (code : Code) → (variable_pools.takes s id size).0 ≡ Err code
        → (variable_pools.takes s id size).1 ≡ s
    pub waiters : waiters_of (variable_pools.takes s id size).1 id ≡ waiters_of s id

-- a block of a fixed pool, which is one unit
module _ (s : FixedPools) (id : ℕ) (x : Pool) where
  pub record TakesBlock : Type 0 where
    pub place : (block : ℕ) → (fixed_pools.takes s id).0 ≡ Ok block
        → place_for x x.unit ≡ Some block
    pub taken : (block : ℕ) → (fixed_pools.takes s id).0 ≡ Ok block
        → IsTakenOf x x.unit block (state_of (fixed_pools.takes s id).1 id)
    -- none is taken exactly where there is no place for it
    pub full : ((fixed_pools.takes s id).0 ≡ Err NO_MEMORY) ↔ (place_for x x.unit ≡ None)
    pub refused : (code : Code) → (fixed_pools.takes s id).0 ≡ Err code
        → (fixed_pools.takes s id).1 ≡ s
    pub waiters : waiters_of (fixed_pools.takes s id).1 id ≡ waiters_of s id

pub record MemoryIsTaken : Type 0 where
  pub variable : (s : VariablePools) (id size : ℕ) (x : Pool) → state_of s id ≡ Some x
      → TakesMemory s id size x
  pub fixed : (s : FixedPools) (id : ℕ) (x : Pool) → state_of s id ≡ Some x
      → TakesBlock s id x
  pub unknown_variable : (s : VariablePools) (id size : ℕ) → state_of s id ≡ None
      → variable_pools.takes s id size ≡ (Err UNKNOWN_VARIABLE_POOL, s)
  pub unknown_fixed : (s : FixedPools) (id : ℕ) → state_of s id ≡ None
      → fixed_pools.takes s id ≡ (Err UNKNOWN_FIXED_POOL, s)
