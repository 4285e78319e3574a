-- How the threads are spelled, by their ids, and the ready ones, by priority, and how they are put
-- back. This project's own profile.
use Rattle.std.specs.Prelude.{ℕ, Option, Some, option_and_then, option_map, find, ◌==◌, List, map}
use Rattle.iop_saved_threads.specs.Processors.{cpu_form}
use Rattle.iop_saved_threads.specs.Tables.{put_thread, put_ready, id_form, next_ready}
use Rattle.iop_saved_threads.specs.Threads.{thread_form, read_form}
use Rattle.iop_snapshot.specs.Forms.{Form, both, seen_as, series}
use Rattle.iop_snapshot.specs.Putting.{put_all}
use Rattle.iop_thread.specs.Ordering.{in_order}
use Rattle.iop_thread.specs.Restoring.{no_threads, with_running_back}
use Rattle.iop_thread.specs.ThreadTable.{ThreadTable}
use Rattle.iop_thread.specs.declared.thread.Thread.{Thread}
use Rattle.iop_saved_kernel.specs.declared.priorities.ThreadPriority.{ThreadPriority}

pub record ThreadLists : Type 0 where
  -- the threads, by their ids
  pub live : List Thread
  -- the ids of the ready ones, by priority, and by arrival within one
  pub ready : List ℕ

abbrev pub threads_with : List Thread × List ℕ → ThreadLists
threads_with lists = record { live = lists.0; ready = lists.1 }

abbrev pub threads_parts : ThreadLists → List Thread × List ℕ
threads_parts lists = (lists.live, lists.ready)

-- threads of a form, and the ids of those that are ready, the next of which is of this form
unfoldable pub threads_form : Form Thread → (List ℕ → Form ℕ) → Form ThreadLists
threads_form thread next_id =
    seen_as (both (series thread (λ _. thread)) (λ _. series id_form next_id))
    (λ lists. Some (threads_with lists)) threads_parts

-- how they are written
abbrev pub written_threads : Form ThreadLists
written_threads = threads_form (thread_form cpu_form) (λ _. id_form)

-- how they are read: those that keep registers do not execute, and as many as can be are ready
abbrev pub read_threads : Form ThreadLists
read_threads = threads_form read_form next_ready

abbrev pub thread_lists : ThreadTable → ThreadLists
thread_lists s = record { live = s.live; ready = (in_order s).ready }

-- the ready ones are put back into a table of those that are live, of which this one runs
abbrev pub ready_back : (running : Option ℕ) → ThreadTable → List ℕ → Option ThreadTable
ready_back running t ready =
    option_and_then (λ u. with_running_back u running) (put_all put_ready t ready)

-- the live ones are put back, and then the ready ones
unfoldable pub threads_back : (running : Option ℕ) → ThreadLists → Option ThreadTable
threads_back running lists =
    option_and_then (λ t. ready_back running t lists.ready)
    (put_all put_thread no_threads lists.live)

-- the priority of each
abbrev pub priority_in : Thread → ThreadPriority
priority_in t = record { thread = t.id; priority = t.priority }

abbrev pub priorities_in : List Thread → List ThreadPriority
priorities_in live = map priority_in live

-- that of the thread of an id, if there is one
abbrev pub priority_among : List ThreadPriority → ℕ → Option ℕ
priority_among priorities id =
    option_map (λ one. one.priority) (find (λ one. one.thread == id) priorities)
