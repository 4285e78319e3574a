-- The list of ready threads, in order of their arrival (ps2sdk: thbase). That the best is the first
-- in it among those of the least priority number is this project's own profile.
use Rattle.std.specs.Prelude.{◌≡◌, ◌≢◌, ℕ, ◌<◌, ◌==◌, Bool, not, option_map, Option, Some, None, List, [], ◌∷◌, ◌++◌, find, filter, slice_get, All, AllPairs}
use Rattle.std.specs.List.{list_any}
use Rattle.iop_base.specs.Choosing.{better, best}
use Rattle.iop_ready.specs.declared.slot.TheConstants.{MOST_THREADS}
use Rattle.iop_ready.specs.declared.entry.Entry.{Entry}
use Rattle.iop_ready.specs.Priorities.{IsPriority}

-- a ready thread
abbrev pub entry_of : ℕ → ℕ → Entry
entry_of slot priority = record { slot = slot; priority = priority }

-- no thread of it has this slot
abbrev pub HasNot : ℕ → List Entry → Type 0
HasNot slot xs = All (λ e. e.slot ≢ slot) xs

-- a thread that can be put into the list
pub record CanEnter (e : Entry) (xs : List Entry) : Type 0 where
  pub slot : e.slot < MOST_THREADS
  pub priority : IsPriority e.priority
  pub absent : HasNot e.slot xs

-- whether the thread of a slot is in the list
abbrev pub is_listed : ℕ → List Entry → Bool
is_listed slot xs = list_any (λ e. e.slot == slot) xs

-- the list without the thread of a slot
abbrev pub without : ℕ → List Entry → List Entry
without slot xs = filter (λ e. not (e.slot == slot)) xs

-- the threads of a priority, in order
abbrev pub of_priority : ℕ → List Entry → List Entry
of_priority priority xs = filter (λ e. e.priority == priority) xs

-- the slot of the thread at a place among those of a priority, in order of their arrival
abbrev pub slot_at : (priority place : ℕ) → List Entry → Option ℕ
slot_at priority place xs = option_map (λ e. e.slot) (slice_get (of_priority priority xs) place)

-- the first thread of a priority
abbrev pub first_of : ℕ → List Entry → Option Entry
first_of priority xs = find (λ e. e.priority == priority) xs

-- the list with this thread, if there is one, moved behind all others
abbrev pub moved_last : Option Entry → List Entry → List Entry
moved_last None xs = xs
moved_last (Some e) xs = without e.slot xs ++ e ∷ []

-- the list with the first thread of a priority moved behind all others
abbrev pub rotated : ℕ → List Entry → List Entry
rotated priority xs = moved_last (first_of priority xs) xs

-- the first thread in the list among those of the least priority number
abbrev pub best_of : List Entry → Option Entry
best_of xs = best (λ e. e.priority) xs

-- the better of the best so far, if there is one, and one that comes later
abbrev pub with_later : Option Entry → Entry → Entry
with_later None later = later
with_later (Some first) later = better (λ e. e.priority) first (Some later)

-- the slot of the best
abbrev pub best_slot : List Entry → Option ℕ
best_slot xs = option_map (λ e. e.slot) (best_of xs)

-- what holds of every list of ready threads
pub record IsReadyList (xs : List Entry) : Type 0 where
  pub slots : All (λ e. e.slot < MOST_THREADS) xs
  pub priorities : All (λ e. IsPriority e.priority) xs
  pub distinct : AllPairs (λ x y. x.slot ≢ y.slot) xs

-- two lists stand for one another: each priority has the same threads in the same order
pub record StandsFor (xs ys : List Entry) : Type 0 where
  pub same : (priority : ℕ) → of_priority priority xs ≡ of_priority priority ys
  pub left : IsReadyList xs
  pub right : IsReadyList ys
