-- Which threads are live, what each waits for, and which one runs, after each operation.
use Rattle.std.proofs.Common.{◌≡◌, ℕ, ◌+◌, ◌-◌, ◌==◌, min, nat_lt, Bool, true, false, if◌then◌else◌, Option, Some, None, refl, ap, sym, ◌∙◌, subst}
use Rattle.std.proofs.lemmas.Option.{cond_some, same_Some}
use Rattle.std.proofs.lemmas.Bool.{cond_both}
use Rattle.iop_exec.specs.declared.cpu.Cpu.{Cpu}
use Rattle.iop_thread.specs.declared.state.State.{State}
use Rattle.iop_thread.specs.declared.state.State.TheVariants.{Dormant, Running, Ready, Waiting, Suspended, WaitingSuspended}
use Rattle.iop_thread.specs.declared.thread.Thread.{Thread}
use Rattle.iop_thread.specs.declared.thread.TheConstants.{LOADER, MOST_WAKEUPS}
use Rattle.iop_thread.specs.declared.wait.Wait.{Wait}
use Rattle.iop_thread.specs.Operations.{rotates_ready, rotates_it, blocks_it, wakes_in, wakes_it, suspends_it, resumes_in, resumes_it, wakes_up_by, wakes_up_it, cancels_it, takes_wakeup_it, Dispatch, dispatches_by}
use Rattle.iop_thread.specs.Placing.{IsPlaced}
use Rattle.iop_thread.specs.States.{sleeps, is_dormant, wait_in, suspended_state, with_answer}
use Rattle.iop_thread.specs.ThreadTable.{ThreadTable, thread_of, is_it, has_priority, running_thread, best_ready, first_ready, with_thread, leaves, ready_first, ready_last, runs, has_room}
use Rattle.iop_thread.specs.Waits.{WaitOn, WaitBut, running_but, after_wakeup, MovesWaits, OperationsMoveWaits}
use Rattle.iop_thread.proofs.LiveThreads.{changed}
use Rattle.iop_thread.proofs.FindingThreads.{Finds, finds_by_id, running_thread_runs, none_runs, best_is_ready, running_id, either_way}
use Rattle.iop_thread.proofs.Dispatching.{found_behind}
use Rattle.iop_thread.proofs.Moving.{live_leaving}
use Rattle.iop_thread.proofs.WaitingOn.{found_wait, on_same, but_same, on_changed, but_changed, on_then, running_without, running_beside, running_leaving, wait_suspended}
use Rattle.iop_thread.proofs.WaitsStarting.{dormant_waits, dormant_stands, nothing, moves_made, moves_deletes_it, moves_starts_it, moves_begins_it, moves_ends_it, but_nothing, but_found, moves_terminates_it, moves_changes_it}

module _ (s : ThreadTable) (placed : IsPlaced s) where
  -- the running thread is put behind all others, if it has the priority
  moves_rotates_ready : (o : Option ℕ) → WaitOn s (rotates_ready s o) s.running
  moves_rotates_ready None = nothing s placed
  moves_rotates_ready (Some id) = on_same s _ refl s.running refl

  moves_rotates_by : (priority : ℕ) (registers : Cpu) (t : Thread) → thread_of s.live t.id ≡ Some t
      → t.state ≡ Running → (b : Bool)
      → WaitOn s
      (if b then ready_last (leaves s t Running) t registers
      else rotates_ready s (first_ready s priority))
      (if b then None else s.running)
  moves_rotates_by priority registers t found is true =
      on_changed s t (record t { state = Ready registers }) found _ refl None refl
      (sym (ap wait_in is))
  moves_rotates_by priority registers t found is false =
      moves_rotates_ready (first_ready s priority)

  moves_rotates_it : (priority : ℕ) (registers : Cpu) (o : Option Thread) → running_thread s ≡ o
      → WaitOn s (rotates_it s priority registers o)
      (if has_priority priority o then None else s.running)
  moves_rotates_it priority registers None is = moves_rotates_ready (first_ready s priority)
  moves_rotates_it priority registers (Some t) is =
      let runs = running_thread_runs s placed t is in
      moves_rotates_by priority registers t runs.found runs.is (t.priority == priority)

  -- the running thread waits
  moves_blocks_it : (wait : Wait) (registers : Cpu) (o : Option Thread) → running_thread s ≡ o
      → WaitBut s (blocks_it s wait registers o) s.running (Some wait) None
  moves_blocks_it wait registers None is =
      let none = none_runs s placed is in
      but_same s s.running (Some wait) (λ id it. absurd (cc (ap (λ o. is_it o id) none, it))) None
      none
  moves_blocks_it wait registers (Some t) is =
      let runs = running_thread_runs s placed t is in
      subst (λ at. WaitBut s (blocks_it s wait registers (Some t)) at (Some wait) None)
      (sym (running_id s t is))
      (but_changed s t (record t { state = Waiting wait registers }) runs.found _ refl None refl
      (Some wait) refl)

  -- a wait ends, by the state that the thread is in
  moves_wakes_in : (answer id : ℕ) (t : Thread) → thread_of s.live id ≡ Some t → (state : State)
      → t.state ≡ state → WaitBut s (wakes_in s answer t state) (Some id) None s.running
  moves_wakes_in answer id t found Dormant is =
      but_nothing s placed id None (ap found_wait found ∙ ap wait_in is) s.running refl
  moves_wakes_in answer id t found Running is =
      but_nothing s placed id None (ap found_wait found ∙ ap wait_in is) s.running refl
  moves_wakes_in answer id t found (Ready own) is =
      but_nothing s placed id None (ap found_wait found ∙ ap wait_in is) s.running refl
  moves_wakes_in answer id t found (Waiting wait own) is =
      but_found s placed id t (record t { state = Ready (with_answer own answer) }) found refl _ refl
      s.running refl None refl
  moves_wakes_in answer id t found (Suspended own) is =
      but_nothing s placed id None (ap found_wait found ∙ ap wait_in is) s.running refl
  moves_wakes_in answer id t found (WaitingSuspended wait own) is =
      but_found s placed id t (record t { state = Suspended (with_answer own answer) }) found refl _
      refl s.running refl None refl

  -- the wait of a thread ends, if one is found
  moves_wakes_it : (answer id : ℕ) (o : Option Thread) → thread_of s.live id ≡ o
      → WaitBut s (wakes_it s answer o) (Some id) None s.running
  moves_wakes_it answer id None found =
      but_nothing s placed id None (ap found_wait found) s.running refl
  moves_wakes_it answer id (Some t) found = moves_wakes_in answer id t found t.state refl

  -- a thread is suspended
  moves_suspends_it : (registers : Cpu) (id : ℕ) (o : Option Thread) → thread_of s.live id ≡ o
      → WaitOn s (suspends_it s registers o).1 (running_but s id)
  moves_suspends_it registers id None found =
      on_same s s refl _ (running_without s placed id found)
  moves_suspends_it registers id (Some t) found =
      let u = record t { state = suspended_state registers t.state } in
      either_way (λ r. WaitOn s r (running_but s id)) (is_dormant t.state) _ _
      (λ dormant. on_same s s refl _
      (running_beside s placed id t found (dormant_stands t.state dormant)))
      (λ other. on_changed s t u (finds_by_id s id t found) _
      (ap (changed u) (live_leaving s t t.state)) _ (running_leaving s placed id t found)
      (wait_suspended registers t.state))

  -- a thread is resumed, by the state that it is in
  moves_resumes_in : (t : Thread) → thread_of s.live t.id ≡ Some t → (state : State)
      → t.state ≡ state → WaitOn s (resumes_in s t state).1 s.running
  moves_resumes_in t found Dormant is = nothing s placed
  moves_resumes_in t found Running is = nothing s placed
  moves_resumes_in t found (Ready own) is = nothing s placed
  moves_resumes_in t found (Waiting wait own) is = nothing s placed
  moves_resumes_in t found (Suspended own) is =
      on_changed s t (record t { state = Ready own }) found _ refl s.running refl
      (sym (ap wait_in is))
  moves_resumes_in t found (WaitingSuspended wait own) is =
      on_changed s t (record t { state = Waiting wait own }) found _ refl s.running refl
      (sym (ap wait_in is))

  -- a thread is resumed, if one is found
  moves_resumes_it : (o : Option Thread) → Finds s o → WaitOn s (resumes_it s o).1 s.running
  moves_resumes_it None finds = nothing s placed
  moves_resumes_it (Some t) finds = moves_resumes_in t (finds t refl) t.state refl

  -- only the wakeups of a thread change
  moves_wakeups : (t : Thread) → thread_of s.live t.id ≡ Some t → (wakeups : ℕ)
      → WaitOn s (with_thread s (record t { wakeups = wakeups })) s.running
  moves_wakeups t found wakeups =
      on_changed s t (record t { wakeups = wakeups }) found _ refl s.running refl refl

  -- a thread is woken, by whether it sleeps
  moves_wakes_up_by : (id : ℕ) (t : Thread) → thread_of s.live id ≡ Some t
      → WaitBut s (wakes_up_by s t) (Some id) (after_wakeup (wait_in t.state)) s.running
  moves_wakes_up_by id t found =
      cond_both (sleeps (wait_in t.state)) _ _
      (λ left. WaitBut s left (Some id) (after_wakeup (wait_in t.state)) s.running)
      (λ asleep. rw asleep (moves_wakes_in 0 id t found t.state refl))
      (λ other. but_found s placed id t (record t { wakeups = min (t.wakeups + 1) MOST_WAKEUPS })
      found refl _ refl s.running refl _ (rw other refl))

  -- a thread is woken, if one is found
  moves_wakes_up_it : (id : ℕ) (o : Option Thread) → thread_of s.live id ≡ o
      → WaitBut s (wakes_up_it s o).1 (Some id) (after_wakeup (found_wait o)) s.running
  moves_wakes_up_it id None found =
      but_nothing s placed id None (ap found_wait found) s.running refl
  moves_wakes_up_it id (Some t) found =
      either_way (λ r. WaitBut s r (Some id) (after_wakeup (wait_in t.state)) s.running)
      (is_dormant t.state) _ _
      (λ dormant. let none = dormant_waits t.state dormant in
      but_nothing s placed id _ (ap found_wait found ∙ none ∙ sym (ap after_wakeup none)) s.running
      refl)
      (λ other. moves_wakes_up_by id t found)

  -- the wakeups of a thread are forgotten
  moves_cancels_it : (o : Option Thread) → Finds s o → WaitOn s (cancels_it s o).1 s.running
  moves_cancels_it None finds = nothing s placed
  moves_cancels_it (Some t) finds =
      either_way (λ r. WaitOn s r s.running) (is_dormant t.state) _ _ (λ dormant. nothing s placed)
      (λ other. moves_wakeups t (finds t refl) 0)

  -- the running thread takes a wakeup
  moves_takes_wakeup_it : (o : Option Thread) → running_thread s ≡ o
      → WaitOn s (takes_wakeup_it s o).1 s.running
  moves_takes_wakeup_it None is = nothing s placed
  moves_takes_wakeup_it (Some t) is =
      either_way (λ r. WaitOn s r s.running) (nat_lt 0 t.wakeups) _ _
      (λ some. moves_wakeups t (running_thread_runs s placed t is).found (t.wakeups - 1))
      (λ none. nothing s placed)

-- a ready thread runs
moves_runs : (s : ThreadTable) (t : Thread) (own : Cpu) → thread_of s.live t.id ≡ Some t
    → t.state ≡ Ready own → WaitOn s (runs s t) (Some t.id)
moves_runs s t own found is =
    on_changed s t (record t { state = Running }) found _ refl (Some t.id) refl
    (sym (ap wait_in is))

module _ (s : ThreadTable) (placed : IsPlaced s) (registers : Cpu) (d : Dispatch) where
  -- a dispatch, by the running thread and the best ready one
  moves_dispatches_by : (running best : Option Thread) → running_thread s ≡ running
      → best_ready s ≡ best → dispatches_by s registers running best ≡ Some d
      → WaitOn s d.threads (Some d.id)
  moves_dispatches_by None None none is did = cc
  moves_dispatches_by (Some r) None at is did = cc
  moves_dispatches_by None (Some t) none is did =
      let ready = best_is_ready s placed t is in
      subst (λ (d : Dispatch). WaitOn s d.threads (Some d.id)) (same_Some _ d did)
      (moves_runs s t ready.own ready.found ready.is)
  moves_dispatches_by (Some r) (Some t) at is did =
      let ready = best_is_ready s placed t is in
      let running = running_thread_runs s placed r at in
      let first = ready_first s r registers in
      let by = cond_some (nat_lt t.priority r.priority) _ d did in
      subst (λ (d : Dispatch). WaitOn s d.threads (Some d.id)) by.1
      (on_then s first (runs first t) s.running (Some t.id)
      (on_changed s r (record r { state = Ready registers }) running.found first refl s.running refl
      (sym (ap wait_in running.is)))
      (moves_runs first t ready.own (found_behind s r t registers running ready) ready.is))

-- what each operation does to the waits
pub moves_waits : (s : ThreadTable) → IsPlaced s → MovesWaits s
moves_waits s placed = record {
  creates = λ param stack gp. moves_made s placed param stack gp (has_room s) refl;
  deletes = λ id. moves_deletes_it s placed id (thread_of s.live id) refl;
  starts = λ id argument. moves_starts_it s placed argument _ (finds_by_id s id);
  begins = λ registers. moves_begins_it s placed registers _ (finds_by_id s LOADER);
  ends_running = moves_ends_it s placed (running_thread s) refl;
  terminates = λ id. moves_terminates_it s placed id (thread_of s.live id) refl;
  changes = λ id priority. moves_changes_it s placed priority _ (finds_by_id s id);
  rotates = λ priority registers.
      moves_rotates_it s placed priority registers (running_thread s) refl;
  blocks = λ wait registers. moves_blocks_it s placed wait registers (running_thread s) refl;
  wakes = λ id answer. moves_wakes_it s placed answer id (thread_of s.live id) refl;
  suspends = λ id registers. moves_suspends_it s placed registers id (thread_of s.live id) refl;
  resumes = λ id. moves_resumes_it s placed _ (finds_by_id s id);
  wakes_up = λ id. moves_wakes_up_it s placed id (thread_of s.live id) refl;
  cancels = λ id. moves_cancels_it s placed _ (finds_by_id s id);
  takes_wakeup = moves_takes_wakeup_it s placed (running_thread s) refl;
  dispatches = λ registers d did.
      moves_dispatches_by s placed registers d (running_thread s) (best_ready s) refl refl did;
}

pub operations_move_waits : OperationsMoveWaits
operations_move_waits = moves_waits
