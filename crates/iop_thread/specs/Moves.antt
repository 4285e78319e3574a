-- What the moves of single threads ask of the thread that is moved.
use Rattle.std.specs.Prelude.{◌≡◌, ◌≢◌, ◌⊎◌, ℕ, Option, Some, List, All}
use Rattle.iop_thread.specs.declared.found.Found.{Found}
use Rattle.iop_thread.specs.declared.thread.Thread.{Thread}
use Rattle.iop_thread.specs.ThreadTable.{ThreadTable, thread_of}
use Rattle.iop_thread.specs.ThreadPlaces.{thread_at}

-- the thread that was found stands in its place
abbrev pub IsThere : List (Option Thread) → Found → Type 0
IsThere places found = thread_at places found.slot ≡ Some found.thread

-- a live thread, by whose id this is its place
pub record IsIn (place : ℕ → ℕ) (live : List Thread) (at : ℕ) (t : Thread) : Type 0 where
  pub found : thread_of live t.id ≡ Some t
  pub slot : place t.id ≡ at

-- the id is not in the list
abbrev pub HasNotId : ℕ → List ℕ → Type 0
HasNotId id ids = All (λ other. other ≢ id) ids

-- a live thread may be replaced by this one: if it is in the ready list it keeps its priority
pub record CanBecome (place : ℕ → ℕ) (s : ThreadTable) (at : ℕ) (t : Thread) : Type 0 where
  pub was : Thread
  pub found : thread_of s.live t.id ≡ Some was
  pub slot : place t.id ≡ at
  pub priority : HasNotId t.id s.ready ⊎ (t.priority ≡ was.priority)

-- a live thread that is not in the ready list may be replaced by this one, and put into the list
pub record CanEnter (place : ℕ → ℕ) (s : ThreadTable) (at : ℕ) (t : Thread) : Type 0 where
  pub was : Thread
  pub found : thread_of s.live t.id ≡ Some was
  pub slot : place t.id ≡ at
  pub absent : HasNotId t.id s.ready
