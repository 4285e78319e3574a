-- Where threads stand, at all times (ps2sdk: thread.h): a law of the operations.
use Rattle.std.specs.Prelude.{◌≡◌, ℕ, ◌+◌, ◌<◌, ◌≤◌, ◌==◌, Bool, false, option_map, unwrap_or, List, length, filter, All, AllPairs}
use Rattle.iop_base.specs.Numbers.{one_if}
use Rattle.iop_base.specs.declared.limits.TheConstants.{LAST_ID}
use Rattle.iop_ready.specs.declared.slot.TheConstants.{MOST_THREADS}
use Rattle.iop_thread.specs.declared.state.State.{State}
use Rattle.iop_thread.specs.declared.thread.Thread.{Thread}
use Rattle.iop_thread.specs.declared.thread.TheConstants.{LOADER}
use Rattle.iop_thread.specs.States.{is_ready, is_running}
use Rattle.iop_thread.specs.ThreadTable.{ThreadTable, thread_of, is_it}

-- how often an id is in a list
abbrev pub times : ℕ → List ℕ → ℕ
times id ids = length (filter (λ other. other == id) ids)

-- whether a thread of this id is live, in such a state
abbrev pub is_in_state : (State → Bool) → List Thread → ℕ → Bool
is_in_state p live id = unwrap_or (option_map (λ t. p t.state) (thread_of live id)) false

-- ids rise
abbrev pub AreRising : List Thread → Type 0
AreRising live = AllPairs (λ t u. t.id < u.id) live

-- live threads are in the order of their ids, from the loader's on and below the next one, and no
-- more are live than can
pub record AreInIdOrder (live : List Thread) (next : ℕ) : Type 0 where
  pub rising : AreRising live
  pub first : All (λ t. LOADER ≤ t.id) live
  pub given : All (λ t. t.id < next) live
  pub few : length live ≤ MOST_THREADS
  pub next_first : LOADER ≤ next
  pub next_last : next ≤ LAST_ID + 1

pub record IsPlaced (s : ThreadTable) : Type 0 where
  -- a thread is in the ready list, once, exactly where it is ready; no other id is in it
  pub ready : (id : ℕ) → times id s.ready ≡ one_if (is_in_state is_ready s.live id)
  -- the running thread is the one that is in the state of running
  pub running : (id : ℕ) → is_it s.running id ≡ is_in_state is_running s.live id
  -- ids rise, and none is still to be given
  pub ids : AreInIdOrder s.live s.next
