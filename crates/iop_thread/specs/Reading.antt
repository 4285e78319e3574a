-- The orders in which the threads are read: the live ones by rising id, the ready ones by priority,
-- and by arrival within one. They are this project's own profile.
use Rattle.std.specs.Prelude.{◌≡◌, ℕ, zero, suc, ◌<◌, ◌==◌, min, nat_lt, option_and_then, Option, Some, None, List, [], ◌∷◌, length, map, find, filter, slice_get, All}
use Rattle.std.specs.List.{reduce}
use Rattle.iop_thread.specs.declared.thread.Thread.{Thread}
use Rattle.iop_thread.specs.Placing.{AreRising}
use Rattle.iop_thread.specs.ThreadTable.{ThreadTable, thread_of, priority_of}

-- the least of the ids above this one
abbrev pub least_above : List Thread → ℕ → Option ℕ
least_above live id = reduce min (filter (nat_lt id) (map (λ t. t.id) live))

-- the live thread that has it
abbrev pub next_above : List Thread → ℕ → Option Thread
next_above live id = option_and_then (thread_of live) (least_above live id)

-- the id of the thread at a place among the ready ones of a priority, in order of their arrival
abbrev pub ready_at : ThreadTable → (priority place : ℕ) → Option ℕ
ready_at s priority place =
    slice_get (filter (λ id. priority_of s.live id == priority) s.ready) place

-- a thread, if there is one, and those that are found from its id on
abbrev pub and_on : (ℕ → List Thread) → Option Thread → List Thread
and_on on None = []
and_on on (Some t) = t ∷ on t.id

-- the threads above an id, each the next above the one before, and so many at most
abbrev pub all_above : (most : ℕ) → List Thread → ℕ → List Thread
all_above zero live id = []
all_above (suc most) live id = and_on (all_above most live) (next_above live id)

-- where ids rise, the next thread above an id is the first one above it, and from 0 on all live
-- threads are found, each once, in their order
pub record ThreadsAreReadInOrder : Type 0 where
  pub next : (live : List Thread) (id : ℕ) → AreRising live
      → next_above live id ≡ find (λ t. nat_lt id t.id) live
  pub all : (live : List Thread) → AreRising live → All (λ t. 0 < t.id) live
      → all_above (length live) live 0 ≡ live
