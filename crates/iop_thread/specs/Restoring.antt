-- How threads are put back into a table of none: those that were live, in the order of their ids,
-- the ready list by priority, which of them runs, and the next id. It is this project's profile.
use Rattle.std.specs.Prelude.{◌≡◌, ℕ, ◌+◌, ◌≤◌, ◌==◌, nat_eq, nat_lt, nat_le, Bool, true, not, ◌&&◌, ◌||◌, is_some, if◌then◌else◌, Option, Some, None, option_and_then, List, [], ◌∷◌, ◌++◌, length}
use Rattle.std.specs.List.{list_all}
use Rattle.std.specs.Option.{option_eq}
use Rattle.iop_base.specs.Numbers.{one_if}
use Rattle.iop_base.specs.declared.limits.TheConstants.{LAST_ID}
use Rattle.iop_ready.specs.declared.slot.TheConstants.{MOST_THREADS}
use Rattle.iop_thread.specs.declared.thread.Thread.{Thread}
use Rattle.iop_thread.specs.declared.thread.TheConstants.{LOADER}
use Rattle.iop_thread.specs.Placing.{AreInIdOrder, times, is_in_state}
use Rattle.iop_thread.specs.States.{is_ready, is_running}
use Rattle.iop_thread.specs.ThreadTable.{ThreadTable, priority_of, is_it}

-- no thread, and the loader's id is the next one
abbrev pub no_threads : ThreadTable
no_threads = record { live = []; ready = []; running = None; next = LOADER }

-- whether one more thread can be live
abbrev pub has_place : ThreadTable → Bool
has_place s = nat_lt (length s.live) MOST_THREADS

-- whether an id is still to be given, and at most a last one
abbrev pub is_ahead : ThreadTable → (id last : ℕ) → Bool
is_ahead s id last = nat_le s.next id && nat_le id last

-- whether a thread may be live beside those that are: one alone runs
abbrev pub may_stand_beside : ThreadTable → Thread → Bool
may_stand_beside s t = not (is_running t.state && is_some s.running)

-- whether a thread may stand behind all others
abbrev pub may_follow : ThreadTable → Thread → Bool
may_follow s t = is_ahead s t.id LAST_ID && may_stand_beside s t && has_place s

-- a thread stands behind all others; where it is ready it is not yet in the ready list
abbrev pub with_last : ThreadTable → Thread → ThreadTable
with_last s t = record {
  live = s.live ++ t ∷ [];
  ready = s.ready;
  running = if is_running t.state then Some t.id else s.running;
  next = t.id + 1;
}

-- whether the thread of an id is ready, and not in the ready list
abbrev pub is_unlisted : ThreadTable → ℕ → Bool
is_unlisted s id = is_in_state is_ready s.live id && times id s.ready == 0

-- whether no thread in the ready list has a worse priority than this
abbrev pub is_none_worse : ThreadTable → (priority : ℕ) → Bool
is_none_worse s priority = list_all (λ id. nat_le (priority_of s.live id) priority) s.ready

-- whether an id may stand behind all others in the ready list
abbrev pub may_be_listed : ThreadTable → ℕ → Bool
may_be_listed s id = is_unlisted s id && is_none_worse s (priority_of s.live id)

abbrev pub with_last_ready : ThreadTable → ℕ → ThreadTable
with_last_ready s id = record s { ready = s.ready ++ id ∷ [] }

-- whether a thread is in the ready list if it is ready
abbrev pub is_listed : ThreadTable → Thread → Bool
is_listed s t = not (is_ready t.state) || nat_lt 0 (times t.id s.ready)

-- the same of a thread, if there is one
abbrev pub is_listed_in : ThreadTable → Option Thread → Bool
is_listed_in s None = true
is_listed_in s (Some t) = is_listed s t

-- whether each thread that is ready is in the ready list
abbrev pub are_listed : ThreadTable → Bool
are_listed s = list_all (is_listed s) s.live

-- whether nothing is left to be put back but the next id: the ready list has all that are ready,
-- and this is the id of the one that runs, or none does
abbrev pub is_complete : ThreadTable → (running : Option ℕ) → Bool
is_complete s running = are_listed s && option_eq nat_eq s.running running

-- whether this may be the id of the next thread
abbrev pub may_be_next : ThreadTable → ℕ → Bool
may_be_next s id = is_ahead s id (LAST_ID + 1)

abbrev pub with_next : ThreadTable → ℕ → ThreadTable
with_next s id = record s { next = id }

-- threads are placed so far: as in a table, but that not all that are ready are in the ready list
pub record ArePlacedSoFar (s : ThreadTable) : Type 0 where
  pub ready : (id : ℕ) → times id s.ready ≤ one_if (is_in_state is_ready s.live id)
  pub running : (id : ℕ) → is_it s.running id ≡ is_in_state is_running s.live id
  pub ids : AreInIdOrder s.live s.next

-- threads are live again, in this order
abbrev pub with_threads_back : ThreadTable → List Thread → Option ThreadTable
with_threads_back s [] = Some s
with_threads_back s (t ∷ ts) =
    if may_follow s t then with_threads_back (with_last s t) ts else None

-- ids are in the ready list again, in this order
abbrev pub with_ready_back : ThreadTable → List ℕ → Option ThreadTable
with_ready_back s [] = Some s
with_ready_back s (id ∷ ids) =
    if may_be_listed s id then with_ready_back (with_last_ready s id) ids else None

abbrev pub with_running_back : ThreadTable → Option ℕ → Option ThreadTable
with_running_back s running = if is_complete s running then Some s else None

abbrev pub with_next_back : ThreadTable → ℕ → Option ThreadTable
with_next_back s id = if may_be_next s id then Some (with_next s id) else None

-- all that stands in a table is put back into one of no thread
abbrev pub restored : ThreadTable → Option ThreadTable
restored s =
    option_and_then (λ t. with_next_back t s.next)
    (option_and_then (λ t. with_running_back t s.running)
    (option_and_then (λ t. with_ready_back t s.ready) (with_threads_back no_threads s.live)))
