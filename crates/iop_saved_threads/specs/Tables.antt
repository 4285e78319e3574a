-- How all threads of a table are spelled, by their ids, and the ready ones, by priority, and how they
-- are put back. This project's own profile.
use Rattle.std.specs.Prelude.{ℕ, ◌==◌, nat_lt, if◌then◌else◌, Option, Some, None, List, [], ◌∷◌, filter, length, slice_index}
use Rattle.iop_ready.specs.declared.slot.TheConstants.{MOST_THREADS}
use Rattle.iop_thread.specs.Restoring.{may_follow, with_last, may_be_listed, with_last_ready}
use Rattle.iop_thread.specs.ThreadTable.{ThreadTable, priority_of}
use Rattle.iop_thread.specs.declared.thread.Thread.{Thread}
use Rattle.iop_snapshot.specs.Forms.{Form, item, seen_as, tested}
use Rattle.iop_snapshot.specs.declared.widths.TheConstants.{THREAD_ID}

-- the threads above an id, in their order
abbrev pub above : ℕ → List Thread → List Thread
above id live = filter (λ t. nat_lt id t.id) live

-- a thread is live behind all others, where it may be
abbrev pub put_thread : ThreadTable → Thread → Option ThreadTable
put_thread s t = if may_follow s t then Some (with_last s t) else None

abbrev pub id_of : List ℕ → Option ℕ
id_of numbers = Some (slice_index numbers 0)

abbrev pub id_numbers : ℕ → List ℕ
id_numbers id = id ∷ []

-- the id of a thread
unfoldable pub id_form : Form ℕ
id_form = seen_as (item THREAD_ID) id_of id_numbers

-- the ids of the ready threads of a priority, in order of their arrival
abbrev pub ready_of : ThreadTable → (priority : ℕ) → List ℕ
ready_of s priority = filter (λ id. priority_of s.live id == priority) s.ready

-- the next one behind others, of which so many can be ready
abbrev pub next_ready : List ℕ → Form ℕ
next_ready before = tested id_form (λ id. nat_lt (length before) MOST_THREADS)

-- the thread of an id is in the ready list behind all others, where it may be
abbrev pub put_ready : ThreadTable → ℕ → Option ThreadTable
put_ready s id = if may_be_listed s id then Some (with_last_ready s id) else None
