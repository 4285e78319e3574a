-- What the law of the thread that is met next says.
use Rattle.std.specs.Prelude.{◌≡◌, ◌↔◌, ℕ, ◌<◌, Bool, option_map, Some, None, List, All}
use Rattle.iop_objects.specs.Objects.{state_of, waiters_of}
use Rattle.iop_objects.specs.declared.waiter.Waiter.{Waiter}
use Rattle.iop_queues.specs.Laws.{IsTaken}
use Rattle.iop_queues.specs.Queue.{chooses, chooses_next_where}
use Rattle.iop_queues.specs.Queues.{those_where}
use Rattle.iop_queues.specs.declared.queued.Queued.{Queued}
use Rattle.iop_pools.specs.Laws.{IsTakenOf}
use Rattle.iop_pools.specs.Pools.{Pool, by_priority, place_for}
use Rattle.iop_pools.specs.VariablePools.{VariablePools, fits, meets_next, place_of}
use Rattle.iop_pools.specs.declared.met.Met.{Met}

-- the thread that is met is the one that is chosen, by priority or by arrival, among those whose
-- size fits. Memory for its size is taken, and all others wait on, in their order
pub record MeetsOne (s : VariablePools) (id : ℕ) (x : Pool) (met : Met) : Type 0 where
  pub one : Queued (Waiter ℕ)
  pub is_next : option_map (λ c. c.one)
      (chooses (by_priority x) (those_where (fits x) (waiters_of s id))) ≡ Some one
  pub thread : met.thread ≡ one.item.thread
  pub some : 0 < one.item.wants
  pub place : place_for x one.item.wants ≡ Some met.block
  pub taken : IsTakenOf x one.item.wants met.block (state_of (meets_next s id).1 id)
  pub others : IsTaken (waiters_of s id)
      (record { one = one; others = waiters_of (meets_next s id).1 id })

pub record MeetsNext (s : VariablePools) (id : ℕ) (x : Pool) : Type 0 where
  pub met : (met : Met) → (meets_next s id).0 ≡ Some met → MeetsOne s id x met
  -- none is met exactly where the size of none has a place
  pub unmet : ((meets_next s id).0 ≡ None)
      ↔ All (λ w. place_of x w.item.wants ≡ None) (waiters_of s id)
  pub same : (meets_next s id).0 ≡ None → (meets_next s id).1 ≡ s

pub record NextIsMet : Type 0 where
  -- the choice by a condition is the one that is chosen among those of which it holds
  pub next : (x : Pool) (by_priority : Bool) (queue : List (Queued (Waiter ℕ)))
      → option_map (λ c. c.one) (chooses_next_where by_priority (fits x) queue)
      ≡ option_map (λ c. c.one) (chooses by_priority (those_where (fits x) queue))
  pub live : (s : VariablePools) (id : ℕ) (x : Pool) → state_of s id ≡ Some x
      → MeetsNext s id x
  pub unknown : (s : VariablePools) (id : ℕ) → state_of s id ≡ None
      → meets_next s id ≡ (None, s)
