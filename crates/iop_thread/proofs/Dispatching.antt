-- Threads stay placed when a priority changes, the ready ones are rotated, or one is dispatched.
use Rattle.std.proofs.Common.{◌≡◌, ℕ, ◌<◌, ◌==◌, nat_lt, Bool, true, false, if◌then◌else◌, Option, Some, None, [], ◌∷◌, ◌++◌, refl, ap, sym, ◌∙◌, arith, subst}
use Rattle.std.proofs.lemmas.Bool.{cond_both, ne_eqb}
use Rattle.std.proofs.lemmas.Option.{cond_some, same_Some}
use Rattle.iop_exec.specs.declared.cpu.Cpu.{Cpu}
use Rattle.iop_thread.specs.declared.state.State.TheVariants.{Running, Ready}
use Rattle.iop_thread.specs.declared.thread.Thread.{Thread}
use Rattle.iop_thread.specs.States.{is_dormant, is_ready}
use Rattle.iop_thread.specs.ThreadTable.{ThreadTable, thread_of, with_thread, without, leaves, ready_last, ready_first, runs, running_thread, best_ready, first_ready}
use Rattle.iop_thread.specs.Operations.{changes_it, changes, rotates_ready, rotates_it, rotates, Dispatch, dispatches_by, dispatches}
use Rattle.iop_thread.specs.Placing.{IsPlaced, times}
use Rattle.iop_thread.proofs.LiveThreads.{thread_of_changed}
use Rattle.iop_thread.proofs.Moving.{in_its_state, goes_last, goes_first, goes_to_run, placed_in_same_state, placed_moved_last}
use Rattle.iop_thread.proofs.FindingThreads.{Finds, finds_by_id, running_thread_runs, none_runs, IsReady, best_is_ready, first_is_ready, either_way, Runs}

module _ (s : ThreadTable) (placed : IsPlaced s) where
  -- only the priority of a thread changes
  placed_with_priority : (t : Thread) → thread_of s.live t.id ≡ Some t → (priority : ℕ)
      → IsPlaced (with_thread s (record t { priority = priority }))
  placed_with_priority t found priority =
      placed_in_same_state s placed t (record t { priority = priority }) found refl

  -- a ready thread of which the priority changes goes behind the others
  placed_ready_again : (t : Thread) → thread_of s.live t.id ≡ Some t → (priority : ℕ) (b : Bool)
      → is_ready t.state ≡ b → IsPlaced (record (with_thread s (record t { priority = priority }))
      { ready = if b then without t.id s.ready ++ t.id ∷ [] else s.ready })
  placed_ready_again t found priority true is =
      let at = in_its_state s t placed found is_ready t.state refl in
      let there : 0 < times t.id s.ready = grind (arith, placed.ready t.id, at, is) in
      placed_moved_last (with_thread s (record t { priority = priority }))
      (placed_with_priority t found priority) t.id there
  placed_ready_again t found priority false is = placed_with_priority t found priority

  -- the priority of a thread changes, if it is not dormant
  placed_changes_it : (priority : ℕ) (o : Option Thread) → Finds s o
      → IsPlaced (changes_it s priority o).1
  placed_changes_it priority None finds = placed
  placed_changes_it priority (Some t) finds =
      either_way IsPlaced (is_dormant t.state) _ _ (λ is. placed)
      (λ other. placed_ready_again t (finds t refl) priority (is_ready t.state) refl)

  pub placed_changes : (id priority : ℕ) → IsPlaced (changes s id priority).1
  placed_changes id priority = placed_changes_it priority (thread_of s.live id) (finds_by_id s id)

  -- the first ready thread is moved behind the others, if there is one
  placed_rotates_ready : (o : Option ℕ) → ((id : ℕ) → o ≡ Some id → 0 < times id s.ready)
      → IsPlaced (rotates_ready s o)
  placed_rotates_ready None there = placed
  placed_rotates_ready (Some id) there = placed_moved_last s placed id (there id refl)

  -- the running thread is put behind all others, or a ready one is
  placed_rotates_it : (priority : ℕ) (registers : Cpu) (o : Option Thread) → running_thread s ≡ o
      → IsPlaced (rotates_it s priority registers o)
  placed_rotates_it priority registers None is =
      placed_rotates_ready (first_ready s priority) (first_is_ready s placed priority)
  placed_rotates_it priority registers (Some t) is =
      let runs = running_thread_runs s placed t is in
      cond_both (t.priority == priority) (ready_last (leaves s t Running) t registers)
      (rotates_ready s (first_ready s priority)) IsPlaced
      (λ same. goes_last s t placed runs.found Running runs.is registers)
      (λ other. placed_rotates_ready (first_ready s priority) (first_is_ready s placed priority))

  pub placed_rotates : (priority : ℕ) (registers : Cpu) → IsPlaced (rotates s priority registers)
  placed_rotates priority registers = placed_rotates_it priority registers (running_thread s) refl

-- a ready thread is not the running one
runs_apart : (s : ThreadTable) (r t : Thread) → Runs s r → IsReady s t → (t.id == r.id) ≡ false
runs_apart s r t runs ready = ne_eqb t.id r.id (λ same.
    let found : thread_of s.live t.id ≡ Some r = ap (thread_of s.live) same ∙ runs.found in
    let is : t ≡ r = same_Some t r (sym ready.found ∙ found) in
    let state : Running ≡ Ready ready.own = sym runs.is ∙ ap (λ u. u.state) (sym is) ∙ ready.is in
    cc)

-- it is found as before when the running one is put in front of it
pub found_behind : (s : ThreadTable) (r t : Thread) (registers : Cpu) → Runs s r → IsReady s t
    → thread_of (ready_first (leaves s r Running) r registers).live t.id ≡ Some t
found_behind s r t registers runs ready =
    let apart = runs_apart s r t runs ready in
    let changed = thread_of_changed s.live (record r { state = Ready registers }) t.id in
    grind (arith, changed, apart, ready.found)

-- the running thread gives way to a ready one
placed_gives_way : (s : ThreadTable) (r t : Thread) (registers : Cpu) → IsPlaced s → Runs s r
    → IsReady s t → IsPlaced (runs (ready_first s r registers) t)
placed_gives_way s r t registers placed running ready =
    let first = goes_first s r placed running.found running.is registers in
    let found = found_behind s r t registers running ready in
    goes_to_run (ready_first (leaves s r Running) r registers) t first found ready.own ready.is refl

module _ (s : ThreadTable) (placed : IsPlaced s) (registers : Cpu) (d : Dispatch) where
  -- a dispatch, by the running thread and the best ready one
  placed_dispatches_by : (running best : Option Thread) → running_thread s ≡ running
      → best_ready s ≡ best → dispatches_by s registers running best ≡ Some d → IsPlaced d.threads
  placed_dispatches_by None None none is did = cc
  placed_dispatches_by (Some r) None at is did = cc
  placed_dispatches_by None (Some t) none is did =
      let ready = best_is_ready s placed t is in
      subst (λ (d : Dispatch). IsPlaced d.threads) (same_Some _ d did)
      (goes_to_run s t placed ready.found ready.own ready.is (none_runs s placed none))
  placed_dispatches_by (Some r) (Some t) at is did =
      let by = cond_some (nat_lt t.priority r.priority) _ d did in
      subst (λ (d : Dispatch). IsPlaced d.threads) by.1
      (placed_gives_way s r t registers placed (running_thread_runs s placed r at)
      (best_is_ready s placed t is))

  pub placed_dispatches : dispatches s registers ≡ Some d → IsPlaced d.threads
  placed_dispatches did = placed_dispatches_by (running_thread s) (best_ready s) refl refl did
