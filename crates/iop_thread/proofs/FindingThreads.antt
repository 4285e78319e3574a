-- Which thread an operation finds, and what state it is in.
use Rattle.std.proofs.Common.{◌≡◌, ℕ, ◌<◌, ◌==◌, Bool, true, false, if◌then◌else◌, option_and_then, Option, Some, None, Contains, refl, ap, sym, ◌∙◌, arith}
use Rattle.std.proofs.lemmas.Bool.Decides.{nat_tests}
use Rattle.iop_base.specs.Choosing.{best}
use Rattle.iop_base.specs.Numbers.{one_if}
use Rattle.iop_exec.specs.declared.cpu.Cpu.{Cpu}
use Rattle.iop_thread.specs.declared.state.State.{State}
use Rattle.iop_thread.specs.declared.state.State.TheVariants.{Dormant, Running, Ready, Waiting, Suspended, WaitingSuspended}
use Rattle.iop_thread.specs.declared.thread.Thread.{Thread}
use Rattle.iop_thread.specs.States.{is_dormant, is_ready, is_running}
use Rattle.iop_thread.specs.ThreadTable.{ThreadTable, thread_of, priority_of, is_it, running_thread, best_ready, first_ready}
use Rattle.iop_thread.specs.Placing.{IsPlaced, times, is_in_state}
use Rattle.iop_thread.proofs.LiveThreads.{thread_of_id}
use Rattle.iop_thread.proofs.ReadyIds.{times_found, times_best, not_contained}

-- the state that a test tells
pub dormant_state : (state : State) → is_dormant state ≡ true → state ≡ Dormant
dormant_state Dormant is = refl
dormant_state Running is = cc
dormant_state (Ready own) is = cc
dormant_state (Waiting wait own) is = cc
dormant_state (Suspended own) is = cc
dormant_state (WaitingSuspended wait own) is = cc

pub running_state : (state : State) → is_running state ≡ true → state ≡ Running
running_state Dormant is = cc
running_state Running is = refl
running_state (Ready own) is = cc
running_state (Waiting wait own) is = cc
running_state (Suspended own) is = cc
running_state (WaitingSuspended wait own) is = cc

pub ready_state : (state : State) → is_ready state ≡ true → (own : Cpu) × (state ≡ Ready own)
ready_state Dormant is = cc
ready_state Running is = cc
ready_state (Ready own) is = (own, refl)
ready_state (Waiting wait own) is = cc
ready_state (Suspended own) is = cc
ready_state (WaitingSuspended wait own) is = cc

-- the thread that is found, if one, is found by its own id
abbrev pub Finds : ThreadTable → Option Thread → Type 0
Finds s o = (t : Thread) → o ≡ Some t → thread_of s.live t.id ≡ Some t

-- so is the one that any id finds
pub finds_by_id : (s : ThreadTable) (id : ℕ) → Finds s (thread_of s.live id)
finds_by_id s id t found = ap (thread_of s.live) (thread_of_id s.live id t found) ∙ found

-- the id that runs is that of the running thread
pub running_id : (s : ThreadTable) (t : Thread) → running_thread s ≡ Some t
    → s.running ≡ Some t.id
running_id s t found = by s.running refl found
  where
    by : (o : Option ℕ) → s.running ≡ o → option_and_then (thread_of s.live) o ≡ Some t
        → s.running ≡ Some t.id
    by None is found = cc
    by (Some id) is found = is ∙ ap Some (sym (thread_of_id s.live id t found))

-- the thread that runs
pub record Runs (s : ThreadTable) (t : Thread) : Type 0 where
  pub found : thread_of s.live t.id ≡ Some t
  pub is : t.state ≡ Running

-- a ready thread
pub record IsReady (s : ThreadTable) (t : Thread) : Type 0 where
  pub found : thread_of s.live t.id ≡ Some t
  pub own : Cpu
  pub is : t.state ≡ Ready own

module _ (s : ThreadTable) (placed : IsPlaced s) where
  -- an id that finds a thread is that of one in its state
  state_at : (p : State → Bool) (id : ℕ) (t : Thread) → thread_of s.live id ≡ Some t
      → is_in_state p s.live id ≡ p t.state
  state_at p id t found = rw found refl

  -- an id that is not that of a ready thread is not in the ready list
  pub not_in_ready : (id : ℕ) → is_in_state is_ready s.live id ≡ false → Contains s.ready id → ⊥
  not_in_ready id idle = not_contained id s.ready (placed.ready id ∙ ap one_if idle)

  -- by the id that runs
  runs_at : (o : Option ℕ) (t : Thread) → s.running ≡ o
      → option_and_then (thread_of s.live) o ≡ Some t → Runs s t
  runs_at None t is found = cc
  runs_at (Some id) t is found = record {
    found = finds_by_id s id t found;
    is = let here = ap (λ o. is_it o id) is in
        let at = state_at is_running id t found in
        running_state t.state (grind (arith, nat_tests, placed.running id, here, at));
  }

  -- the running thread is in the state of running
  pub running_thread_runs : (t : Thread) → running_thread s ≡ Some t → Runs s t
  running_thread_runs t found = runs_at s.running t refl found

  -- an id that runs finds a thread
  none_at : (o : Option ℕ) → s.running ≡ o → option_and_then (thread_of s.live) o ≡ None
      → o ≡ None
  none_at None is none = refl
  none_at (Some id) is none =
      let here = ap (λ o. is_it o id) is in
      let at : is_in_state is_running s.live id ≡ false = rw none refl in
      absurd (grind (arith, nat_tests, placed.running id, here, at))

  -- where no thread runs there is no id either
  pub none_runs : running_thread s ≡ None → s.running ≡ None
  none_runs none = none_at s.running refl none

  -- an id that is in the ready list is that of a ready thread
  ready_at : (id : ℕ) (t : Thread) → 0 < times id s.ready → thread_of s.live id ≡ Some t
      → IsReady s t
  ready_at id t there found =
      let at = state_at is_ready id t found in
      let is = is_true (is_ready t.state) (grind (arith, there, placed.ready id, at)) in
      let own = ready_state t.state is in
      record { found = finds_by_id s id t found; own = own.0; is = own.1 }
    where
      is_true : (b : Bool) → 0 < one_if b → b ≡ true
      is_true true less = refl
      is_true false less = absurd (omega (arith, less))

  -- by the id that is best
  best_at : (o : Option ℕ) (t : Thread) → best (priority_of s.live) s.ready ≡ o
      → option_and_then (thread_of s.live) o ≡ Some t → IsReady s t
  best_at None t is found = cc
  best_at (Some id) t is found = ready_at id t (times_best (priority_of s.live) s.ready id is) found

  -- the best ready thread is ready
  pub best_is_ready : (t : Thread) → best_ready s ≡ Some t → IsReady s t
  best_is_ready t found = best_at (best (priority_of s.live) s.ready) t refl found

  -- the first id of a priority is in the ready list
  pub first_is_ready : (priority id : ℕ) → first_ready s priority ≡ Some id → 0 < times id s.ready
  first_is_ready priority id found =
      times_found (λ id. priority_of s.live id == priority) s.ready id found

-- of the two ways that an operation can go, both leave such threads
pub either_way : {A : Type 0} (P : ThreadTable → Type 0) (b : Bool) (x y : A × ThreadTable)
    → (b ≡ true → P x.1) → (b ≡ false → P y.1) → P (if b then x else y).1
either_way P true x y first second = first refl
either_way P false x y first second = second refl
