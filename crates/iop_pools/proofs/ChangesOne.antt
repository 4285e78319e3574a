-- A call on the memory of a pool changes that pool alone.
use Rattle.std.proofs.Common.{◌≡◌, ℕ, Bool, true, false, inl, Option, Some, None, Result, Ok, Err, if◌then◌else◌, refl, ◌∙◌, arith}
use Rattle.std.specs.Prelude.{⊤, ◌==◌, ◌||◌, nat_lt}
use Rattle.iop_base.specs.declared.code.Code.{Code}
use Rattle.iop_base.specs.declared.code.TheConstants.Code.{ILLEGAL_BLOCK, ILLEGAL_SIZE}
use Rattle.iop_objects.specs.Laws.{GivesNoId}
use Rattle.iop_objects.specs.Objects as objects
use Rattle.iop_objects.specs.Objects.{AreObjects, state_of, takes_next, waiters_of, with_waiters}
use Rattle.iop_objects.specs.declared.waiter.Waiter.{Waiter}
use Rattle.iop_objects.proofs.Apart.{changes_one}
use Rattle.iop_objects.proofs.KeptApart.{keep_apart}
use Rattle.iop_queues.specs.Queue.{Choice, chooses_next_where}
use Rattle.iop_pools.specs.FixedPools as fixed_pools
use Rattle.iop_pools.specs.FixedPools.{FixedPools, gives, gives_it, gives_to}
use Rattle.iop_pools.specs.Laws.{ChangeOne, PoolsChangeOne}
use Rattle.iop_pools.specs.Pools.{Pool, Pools, by_priority, place_for, takes_at, takes_of, with_ranges, frees, frees_it, takes_place}
use Rattle.iop_pools.specs.Ranges.{is_out, without}
use Rattle.iop_pools.specs.VariablePools as variable_pools
use Rattle.iop_pools.specs.VariablePools.{VariablePools}

module _ {W : Type 0} (s : Pools W) (h : AreObjects s) where
  unchanged : (id : ℕ) → GivesNoId id s s
  unchanged id = record {
    change = record {
      change = record { sound = h; rises = omega arith; given = λ n live. inl live };
      others = λ other apart. refl;
    };
    next = refl;
  }

  took : (id size : ℕ) (o : Option Pool) → GivesNoId id s (takes_of s id size o).1
  took id size None = unchanged id
  took id size (Some x) = by (place_for x size)
    where
      by : (place : Option ℕ) → GivesNoId id s (takes_at s id size x place).1
      by None = unchanged id
      by (Some place) = changes_one id _ (λ o. refl) s h

  freed : (id block : ℕ) (o : Option Pool) → GivesNoId id s (frees_it s id block o).1
  freed id block None = unchanged id
  freed id block (Some x) = by (is_out block x.ranges)
    where
      outcome : Bool → Option Bool × Pools W
      outcome b =
          if b then (Some true, with_ranges s id x (without block x.ranges)) else (Some false, s)

      by : (b : Bool) → GivesNoId id s (outcome b).1
      by true = changes_one id _ (λ o. refl) s h
      by false = unchanged id

  one : ChangeOne s
  one = record {
    takes = λ id size. took id size (state_of s id);
    frees = λ id block. freed id block (state_of s id);
  }

module _ (s : FixedPools) (h : AreObjects s) (id block thread : ℕ) where
  abbrev Answer : Type 0
  Answer = Result (Option ℕ) Code × FixedPools

  abbrev Keeps : Answer → Type 0
  Keeps t = t.0 ≡ Ok (Some thread) → state_of t.1 id ≡ state_of s id

  kept : (b : Bool) → state_of (takes_next s id b).1 id ≡ state_of s id
  kept b = (((keep_apart {A = Pool} {W = ⊤}).calls s h).takes_next id b).state

  by_waiter : (x : Pool) (t : Option (Waiter ⊤) × FixedPools)
      → state_of t.1 id ≡ state_of s id → Keeps (gives_to s id block x t)
  by_waiter x (None, left) keeps e = cc
  by_waiter x (Some waiter, left) keeps e = keeps

  by_state : (o : Option Pool) → Keeps (gives_it s id block o)
  by_state None = λ e. cc
  by_state (Some x) = by (is_out block x.ranges)
    where
      outcome : Bool → Answer
      outcome b =
          if b then gives_to s id block x (takes_next s id (by_priority x))
          else (Err ILLEGAL_BLOCK, s)

      by : (b : Bool) → Keeps (outcome b)
      by true = by_waiter x (takes_next s id (by_priority x)) (kept (by_priority x))
      by false = λ e. cc

  handed : Keeps (gives s id block)
  handed = by_state (state_of s id)

-- two changes of one pool, one after the other
compose : {W : Type 0} (id : ℕ) (a b c : Pools W) → GivesNoId id a b → GivesNoId id b c
    → GivesNoId id a c
compose {W} id a b c p q = record {
  change = record {
    change = (keep_apart {A = Pool} {W = W}).compose a b c p.change.change q.change.change;
    others = λ other apart. q.change.others other apart ∙ p.change.others other apart;
  };
  next = q.next ∙ p.next;
}

module _ (s : VariablePools) (h : AreObjects s) (id : ℕ) where
  abbrev VariableOne : VariablePools → Type 0
  VariableOne left = GivesNoId id s left

  memory_taken : (size : ℕ) → VariableOne (variable_pools.takes s id size).1
  memory_taken size = by_state (state_of s id)
    where
      by_place : (t : Option ℕ × VariablePools) → VariableOne t.1
          → VariableOne (variable_pools.taken s t).1
      by_place (None, left) did = did
      by_place (Some place, left) did = did

      outcome : Bool → Result ℕ Code × VariablePools
      outcome b =
          if b then (Err ILLEGAL_SIZE, s) else variable_pools.taken s (takes_place s id size)

      by : (b : Bool) → VariableOne (outcome b).1
      by true = unchanged s h id
      by false = by_place (takes_place s id size) ((one s h).takes id size)

      by_state : (o : Option Pool) → VariableOne (variable_pools.takes_it s id size o).1
      by_state None = unchanged s h id
      by_state (Some x) = by (size == 0 || nat_lt x.size size)

  memory_given : (block : ℕ) → VariableOne (variable_pools.gives s id block).1
  memory_given block = by (frees s id block) ((one s h).frees id block)
    where
      by : (t : Option Bool × VariablePools) → VariableOne t.1
          → VariableOne (variable_pools.given s t).1
      by (None, left) did = did
      by (Some was_out, left) did = did

  met : VariableOne (variable_pools.meets_next s id).1
  met = by_state (state_of s id)
    where
      by_place : (waiter : Waiter ℕ) (t : Option ℕ × VariablePools) → VariableOne t.1
          → VariableOne (variable_pools.answered waiter t).1
      by_place waiter (None, left) did = did
      by_place waiter (Some place, left) did = did

      by : (c : Option (Choice (Waiter ℕ)))
          → VariableOne (variable_pools.meets_by s id (objects.takes s id c)).1
      by None = unchanged s h id
      by (Some c) =
          let rest = with_waiters s id c.others in
          let size = c.one.item.wants in
          let first : VariableOne rest =
          changes_one id (λ o. record o { waiters = c.others }) (λ o. refl) s h in
          by_place c.one.item (takes_place rest id size)
          (compose id s rest (takes_place rest id size).1 first
          ((one rest first.change.change.sound).takes id size))

      by_state : (o : Option Pool) → VariableOne (variable_pools.meets_it s id o).1
      by_state None = unchanged s h id
      by_state (Some x) =
          by (chooses_next_where (by_priority x) (variable_pools.fits x) (waiters_of s id))

module _ (s : FixedPools) (h : AreObjects s) (id : ℕ) where
  abbrev FixedOne : FixedPools → Type 0
  FixedOne left = GivesNoId id s left

  block_taken : FixedOne (fixed_pools.takes s id).1
  block_taken = by_state (state_of s id)
    where
      by : (t : Option ℕ × FixedPools) → FixedOne t.1 → FixedOne (fixed_pools.taken s t).1
      by (None, left) did = did
      by (Some place, left) did = did

      by_state : (o : Option Pool) → FixedOne (fixed_pools.takes_it s id o).1
      by_state None = unchanged s h id
      by_state (Some x) = by (takes_place s id x.unit) ((one s h).takes id x.unit)

  block_given : (block : ℕ) → FixedOne (gives s id block).1
  block_given block = by_state (state_of s id)
    where
      by_waiter : (x : Pool) (t : Option (Waiter ⊤) × FixedPools) → FixedOne t.1
          → FixedOne (gives_to s id block x t).1
      by_waiter x (None, left) did = changes_one id _ (λ o. refl) s h
      by_waiter x (Some waiter, left) did = did

      outcome : Pool → Bool → Result (Option ℕ) Code × FixedPools
      outcome x b =
          if b then gives_to s id block x (takes_next s id (by_priority x))
          else (Err ILLEGAL_BLOCK, s)

      by : (x : Pool) (b : Bool) → FixedOne (outcome x b).1
      by x true =
          by_waiter x (takes_next s id (by_priority x))
          (((keep_apart {A = Pool} {W = ⊤}).calls s h).takes_next id (by_priority x)).change
      by x false = unchanged s h id

      by_state : (o : Option Pool) → FixedOne (gives_it s id block o).1
      by_state None = unchanged s h id
      by_state (Some x) = by x (is_out block x.ranges)

pub pools_change : PoolsChangeOne
pools_change = record {
  variable = λ s h. one s h;
  variable_calls = λ s h. record {
    takes = memory_taken s h;
    gives = memory_given s h;
    meets_next = met s h;
  };
  fixed = λ s h. one s h;
  fixed_calls = λ s h. record { takes = block_taken s h; gives = block_given s h };
  hands_on = λ s h id block thread. handed s h id block thread;
}
