-- The ready list in the order in which it is read and put back: by priority, and by arrival within
-- one. It is this project's own profile.
use Rattle.std.specs.Prelude.{◌≡◌, ◌↔◌, ℕ, zero, suc, ◌+◌, ◌==◌, nat_lt, nat_le, Option, Some, None, List, [], ◌∷◌, ◌++◌, length, filter, All}
use Rattle.std.specs.List.{flat_map, range_with_len}
use Rattle.iop_ready.specs.KernelReady.{KernelReady, KernelStands}
use Rattle.iop_ready.specs.Priorities.{IsPriority}
use Rattle.iop_ready.specs.declared.priority.TheConstants.{LOWEST_PRIORITY}
use Rattle.iop_thread.specs.declared.threads.Threads.{Threads}
use Rattle.iop_thread.specs.Placing.{IsPlaced}
use Rattle.iop_thread.specs.Reading.{ready_at}
use Rattle.iop_thread.specs.Restoring.{restored}
use Rattle.iop_thread.specs.Standing.{Stands}
use Rattle.iop_thread.specs.ThreadTable.{ThreadTable, priority_of}

-- a list by a number of each, and those of one number as they stand: before the first come those of
-- a lesser number, behind it the others
abbrev pub by_number : {X : Type 0} → (X → ℕ) → List X → List X
by_number number [] = []
by_number number (x ∷ xs) =
    let others = by_number number xs in
    filter (λ y. nat_lt (number y) (number x)) others
    ++ x ∷ filter (λ y. nat_le (number x) (number y)) others

-- threads, and the ready ones by priority
abbrev pub in_order : ThreadTable → ThreadTable
in_order s = record s { ready = by_number (priority_of s.live) s.ready }

-- each thread in the ready list has a priority that can be
abbrev pub HavePriorities : ThreadTable → Type 0
HavePriorities s = All (λ id. IsPriority (priority_of s.live id)) s.ready

-- the priorities, from the best on
abbrev pub priorities : List ℕ
priorities = range_with_len 1 LOWEST_PRIORITY

-- an id, if there is one, and those that stand behind it
abbrev pub and_behind : List ℕ → Option ℕ → List ℕ
and_behind ids None = []
and_behind ids (Some id) = id ∷ ids

-- the ids at the places from one on, up to the first place where none is, and so many at most
abbrev pub all_from : (most : ℕ) → (ℕ → Option ℕ) → (place : ℕ) → List ℕ
all_from zero at place = []
all_from (suc most) at place = and_behind (all_from most at (place + 1)) (at place)

-- all that are found of a priority, from the first place on
abbrev pub all_ready_at : ThreadTable → (priority : ℕ) → List ℕ
all_ready_at s priority = all_from (length s.ready) (ready_at s priority) 0

-- of each priority those that are ready are found in order of their arrival, and of one priority
-- after the other all that are ready, in order
pub record ReadyThreadsAreReadInOrder : Type 0 where
  pub own : (s : ThreadTable) (priority : ℕ)
      → all_ready_at s priority ≡ filter (λ id. priority_of s.live id == priority) s.ready
  pub all : (s : ThreadTable) → HavePriorities s
      → flat_map (all_ready_at s) priorities ≡ (in_order s).ready

-- threads that are placed are so in order; all that stands in such a table can be put back, and
-- gives the table again; where all that stands in a table can be put back, it is placed and in order
pub record ThreadsAreRestored : Type 0 where
  pub placed : (s : ThreadTable) → IsPlaced s → IsPlaced (in_order s)
  pub again : (s : ThreadTable) → IsPlaced s → restored (in_order s) ≡ Some (in_order s)
  pub only : (s left : ThreadTable) → restored s ≡ Some left
      → (left ≡ s) × IsPlaced s × (in_order s ≡ s)

-- the ready threads of a table of the program have priorities that can be; and it stands for
-- threads in order exactly where it stands for them
pub record TablesStandInOrder : Type 0 where
  pub priorities : (t : Threads KernelReady) (s : ThreadTable) → Stands KernelStands t s
      → HavePriorities s
  pub either : (t : Threads KernelReady) (s : ThreadTable)
      → Stands KernelStands t (in_order s) ↔ Stands KernelStands t s
