-- What the law of memory that is given back says.
use Rattle.std.specs.Prelude.{◌≡◌, ◌≢◌, ◌↔◌, ℕ, ⊤, true, false, Some, None, Ok, Err, []}
use Rattle.iop_base.specs.declared.code.Code.{Code}
use Rattle.iop_base.specs.declared.code.TheConstants.Code.{OK, UNKNOWN_FIXED_POOL, UNKNOWN_VARIABLE_POOL, ILLEGAL_BLOCK}
use Rattle.iop_objects.specs.Objects.{state_of, waiters_of}
use Rattle.iop_objects.specs.declared.waiter.Waiter.{Waiter}
use Rattle.iop_queues.specs.Queue.{Choice, chooses}
use Rattle.iop_pools.specs.FixedPools as fixed_pools
use Rattle.iop_pools.specs.FixedPools.{FixedPools}
use Rattle.iop_pools.specs.Laws.{IsGivenBack}
use Rattle.iop_pools.specs.Pools.{Pool, by_priority}
use Rattle.iop_pools.specs.Ranges.{is_out}
use Rattle.iop_pools.specs.Standing.{IsPool}
use Rattle.iop_pools.specs.VariablePools as variable_pools
use Rattle.iop_pools.specs.VariablePools.{VariablePools}

module _ (s : FixedPools) (id block : ℕ) (x : Pool) where
  -- a block that is given back goes to the thread that is next among those that wait, and the pool
  -- is as it was
  pub record HandsTo (thread : ℕ) : Type 0 where
    pub choice : Choice (Waiter ⊤)
    pub is_next : chooses (by_priority x) (waiters_of s id) ≡ Some choice
    pub handed : thread ≡ choice.one.item.thread
    pub others : waiters_of (fixed_pools.gives s id block).1 id ≡ choice.others
    pub same : state_of (fixed_pools.gives s id block).1 id ≡ Some x

  pub record GivesBlock : Type 0 where
    pub hands : (thread : ℕ) → (fixed_pools.gives s id block).0 ≡ Ok (Some thread)
        → HandsTo thread
    -- where a thread waits a block that was out goes to one
    pub handed : is_out block x.ranges ≡ true → waiters_of s id ≢ []
        → (thread : ℕ) × ((fixed_pools.gives s id block).0 ≡ Ok (Some thread))
    -- it goes to none exactly where none waits and it was out
    pub none : ((fixed_pools.gives s id block).0 ≡ Ok None)
        ↔ ((is_out block x.ranges ≡ true) × (waiters_of s id ≡ []))
    -- it is out no more then
    pub given_back : (most : ℕ) → IsPool most x → (fixed_pools.gives s id block).0 ≡ Ok None
        → IsGivenBack x block (state_of (fixed_pools.gives s id block).1 id)
    pub none_left : (fixed_pools.gives s id block).0 ≡ Ok None
        → waiters_of (fixed_pools.gives s id block).1 id ≡ []
    pub illegal : ((fixed_pools.gives s id block).0 ≡ Err ILLEGAL_BLOCK)
        ↔ (is_out block x.ranges ≡ false)
    pub refused : (code : Code) → (fixed_pools.gives s id block).0 ≡ Err code
        → (fixed_pools.gives s id block).1 ≡ s

module _ (s : VariablePools) (id block : ℕ) (x : Pool) where
  -- memory that was out is out no more, and the same threads wait
  pub record GivesMemory : Type 0 where
    pub given : ((variable_pools.gives s id block).0 ≡ OK) ↔ (is_out block x.ranges ≡ true)
    pub given_back : (most : ℕ) → IsPool most x → (variable_pools.gives s id block).0 ≡ OK
        → IsGivenBack x block (state_of (variable_pools.gives s id block).1 id)
    pub illegal : ((variable_pools.gives s id block).0 ≡ ILLEGAL_BLOCK)
        ↔ (is_out block x.ranges ≡ false)
    pub refused : (variable_pools.gives s id block).0 ≡ ILLEGAL_BLOCK
        → (variable_pools.gives s id block).1 ≡ s
    pub waiters : waiters_of (variable_pools.gives s id block).1 id ≡ waiters_of s id

pub record MemoryIsGiven : Type 0 where
  pub fixed : (s : FixedPools) (id block : ℕ) (x : Pool) → state_of s id ≡ Some x
      → GivesBlock s id block x
  pub variable : (s : VariablePools) (id block : ℕ) (x : Pool) → state_of s id ≡ Some x
      → GivesMemory s id block x
  pub unknown_fixed : (s : FixedPools) (id block : ℕ) → state_of s id ≡ None
      → fixed_pools.gives s id block ≡ (Err UNKNOWN_FIXED_POOL, s)
  pub unknown_variable : (s : VariablePools) (id block : ℕ) → state_of s id ≡ None
      → variable_pools.gives s id block ≡ (UNKNOWN_VARIABLE_POOL, s)
