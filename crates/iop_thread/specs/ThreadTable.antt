-- The threads, which of them runs, and which are ready (ps2sdk: thbase). That ids are never used again,
-- how many threads can stand, and the loader's thread, are this project's own profile.
use Rattle.std.specs.Prelude.{ℕ, ◌==◌, nat_lt, nat_le, Bool, false, not, ◌&&◌, if◌then◌else◌, Option, Some, None, option_map, option_and_then, unwrap_or, List, [], ◌∷◌, ◌++◌, length, find, filter, map}
use Rattle.iop_base.specs.Choosing.{best}
use Rattle.iop_base.specs.declared.limits.TheConstants.{LAST_ID}
use Rattle.iop_ready.specs.declared.slot.TheConstants.{MOST_THREADS}
use Rattle.iop_exec.specs.declared.cpu.Cpu.{Cpu}
use Rattle.iop_thread.specs.States.{is_ready}
use Rattle.iop_thread.specs.declared.state.State.{State}
use Rattle.iop_thread.specs.declared.state.State.TheVariants.{Running, Ready}
use Rattle.iop_thread.specs.declared.thread.Thread.{Thread}

pub record ThreadTable : Type 0 where
  -- the live threads
  pub live : List Thread
  -- the ids of those that are ready, in order of their arrival
  pub ready : List ℕ
  -- the id of the one that runs
  pub running : Option ℕ
  -- the id of the next one that is made
  pub next : ℕ

-- the live thread of an id
abbrev pub thread_of : List Thread → ℕ → Option Thread
thread_of live id = find (λ t. t.id == id) live

-- the priority of the thread of an id
abbrev pub priority_of : List Thread → ℕ → ℕ
priority_of live id = unwrap_or (option_map (λ t. t.priority) (thread_of live id)) 0

-- whether it is the one that is there
abbrev pub is_it : Option ℕ → ℕ → Bool
is_it None id = false
is_it (Some one) id = one == id

-- the running thread
abbrev pub running_thread : ThreadTable → Option Thread
running_thread s = option_and_then (thread_of s.live) s.running

-- whether there is a thread, and it has a priority
abbrev pub has_priority : (priority : ℕ) → Option Thread → Bool
has_priority priority None = false
has_priority priority (Some t) = t.priority == priority

-- the ready thread that is dispatched next: the first among those of the least priority number
abbrev pub best_ready : ThreadTable → Option Thread
best_ready s = option_and_then (thread_of s.live) (best (priority_of s.live) s.ready)

-- the first ready thread of a priority
abbrev pub first_ready : ThreadTable → ℕ → Option ℕ
first_ready s priority = find (λ id. priority_of s.live id == priority) s.ready

-- small changes

-- a thread changes: the one of the same id becomes this one
abbrev pub with_thread : ThreadTable → Thread → ThreadTable
with_thread s t = record s { live = map (λ u. if u.id == t.id then t else u) s.live }

abbrev pub in_state : ThreadTable → Thread → State → ThreadTable
in_state s t state = with_thread s (record t { state = state })

abbrev pub without : ℕ → List ℕ → List ℕ
without id ids = filter (λ other. not (other == id)) ids

-- a thread as it was at first: with the priority that it was made with, and no wakeups
abbrev pub as_at_first : Thread → Thread
as_at_first t = record t { priority = t.param.priority; wakeups = 0 }

abbrev pub with_wakeups : ThreadTable → Thread → ℕ → ThreadTable
with_wakeups s t wakeups = with_thread s (record t { wakeups = wakeups })

-- a thread has another priority; a ready one is moved behind all others
abbrev pub ready_again : ThreadTable → Thread → List ℕ
ready_again s t = if is_ready t.state then without t.id s.ready ++ t.id ∷ [] else s.ready

abbrev pub with_priority : ThreadTable → Thread → ℕ → ThreadTable
with_priority s t priority =
    record (with_thread s (record t { priority = priority })) { ready = ready_again s t }

-- a thread is put behind the other ready ones, with its registers
abbrev pub ready_last : ThreadTable → Thread → Cpu → ThreadTable
ready_last s t registers = record (in_state s t (Ready registers)) { ready = s.ready ++ t.id ∷ [] }

-- a thread is put in front of the other ready ones
abbrev pub ready_first : ThreadTable → Thread → Cpu → ThreadTable
ready_first s t registers = record (in_state s t (Ready registers)) { ready = t.id ∷ s.ready }

-- a thread leaves the processor or the ready list, where its state has it there
abbrev pub leaves : ThreadTable → Thread → State → ThreadTable
leaves s t Running = record s { running = None }
leaves s t (Ready registers) = record s { ready = without t.id s.ready }
leaves s t other = s

-- a ready thread is taken from the list to run
abbrev pub runs : ThreadTable → Thread → ThreadTable
runs s t = record (in_state s t Running) { ready = without t.id s.ready; running = Some t.id }

-- whether one more thread can be made
abbrev pub has_room : ThreadTable → Bool
has_room s = nat_lt (length s.live) MOST_THREADS && nat_le s.next LAST_ID
