-- What the laws of the forms say.
use Rattle.std.specs.Prelude.{◌≡◌, ℕ, Option, Some, option_map, List, find}
use Rattle.iop_thread.specs.Ordering.{in_order}
use Rattle.iop_thread.specs.Restoring.{no_threads, with_threads_back, with_ready_back}
use Rattle.iop_thread.specs.States.{is_running}
use Rattle.iop_thread.specs.ThreadTable.{ThreadTable}
use Rattle.iop_thread.specs.declared.thread.Thread.{Thread}
use Rattle.iop_snapshot.specs.Forms.{IsLawful, series}
use Rattle.iop_snapshot.specs.Putting.{put_all, next_form}
use Rattle.iop_saved_threads.specs.Processors.{cpu_form, steady_form, kept_form}
use Rattle.iop_saved_threads.specs.Tables.{put_thread, put_ready, id_form, next_ready}
use Rattle.iop_saved_threads.specs.Threads.{thread_form, read_form}

pub record FormsAreLawful : Type 0 where
  pub steady : IsLawful steady_form
  pub kept : IsLawful kept_form
  pub threads : IsLawful read_form
  -- a thread is spelled in one way
  pub same : (t : Thread) → read_form.spell t ≡ (thread_form cpu_form).spell t
  -- threads that may be live together, and ready ones
  pub live : IsLawful (series read_form (next_form put_thread read_form no_threads))
  pub ready : IsLawful (series id_form next_ready)

-- to put threads back one after the other, and then the ready ones, is what iop_thread says of it:
-- so all that stands in a table comes back, as its law says
pub record ThreadsArePutBack : Type 0 where
  pub live : (s : ThreadTable) (ts : List Thread) → put_all put_thread s ts ≡ with_threads_back s ts
  pub ready : (s : ThreadTable) (ids : List ℕ) → put_all put_ready s ids ≡ with_ready_back s ids

-- threads, and then ids of ready ones, were put back into a table of none, which left this table
pub record WerePutBack (live : List Thread) (ready : List ℕ) (left : ThreadTable) : Type 0 where
  pub between : ThreadTable
  pub threads_were : put_all put_thread no_threads live ≡ Some between
  pub ready_were : put_all put_ready between ready ≡ Some left

-- the id of the thread in the state of running, if one is
abbrev pub running_in : List Thread → Option ℕ
running_in live = option_map (λ t. t.id) (find (λ t. is_running t.state) live)

-- what was put back is what stands in the table: so a file that was read is the file that the
-- restored machine would write
pub record ThreadsTellWhatWasPut : Type 0 where
  pub live : (live : List Thread) (ready : List ℕ) (left : ThreadTable)
      → WerePutBack live ready left → left.live ≡ live
  pub ready : (live : List Thread) (ready : List ℕ) (left : ThreadTable)
      → WerePutBack live ready left → left.ready ≡ ready
  -- the ready ones stand by priority, in which order they are written
  pub order : (live : List Thread) (ready : List ℕ) (left : ThreadTable)
      → WerePutBack live ready left → in_order left ≡ left
  pub running : (live : List Thread) (ready : List ℕ) (left : ThreadTable)
      → WerePutBack live ready left → left.running ≡ running_in live
