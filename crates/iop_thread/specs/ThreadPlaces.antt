-- The places in which the records of threads stand: one, or none, in each.
use Rattle.std.specs.Prelude.{◌≡◌, ℕ, ◌==◌, nat_lt, Bool, false, if◌then◌else◌, is_some, option_and_then, Option, Some, None, List, length, filter}
use Rattle.std.specs.List.{position, slice_get}
use Rattle.iop_base.specs.Numbers.{one_if}
use Rattle.iop_ready.specs.declared.slot.TheConstants.{MOST_THREADS}
use Rattle.iop_thread.specs.declared.thread.Thread.{Thread}

-- whether a thread of this id stands in a place
abbrev pub has_id : ℕ → Option Thread → Bool
has_id id None = false
has_id id (Some t) = t.id == id

-- the id of the thread in a place, if it is above this one
abbrev pub id_above : ℕ → Option Thread → Option ℕ
id_above id None = None
id_above id (Some t) = if nat_lt id t.id then Some t.id else None

-- the thread in a place
abbrev pub thread_at : List (Option Thread) → ℕ → Option Thread
thread_at places slot = option_and_then (λ place. place) (slice_get places slot)

-- the place in which the thread of an id stands
abbrev pub place_of : List (Option Thread) → ℕ → Option ℕ
place_of places id = position (has_id id) places

-- one thread alone stands in the places, in the first, or none does
pub record HasAlone (first : Option Thread) (places : List (Option Thread)) : Type 0 where
  pub at : (slot : ℕ) → thread_at places slot ≡ (if slot == 0 then first else None)
  pub count : length (filter is_some places) ≡ one_if (is_some first)
  pub size : length places ≡ MOST_THREADS
