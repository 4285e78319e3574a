-- Which threads are live, what each waits for, and which one runs, when one is made, deleted,
-- started, ended or changed.
use Rattle.std.proofs.Common.{◌≡◌, ℕ, ◌==◌, ◌&&◌, ◌||◌, not, Bool, true, false, if◌then◌else◌, is_ok, Option, Some, None, Result, Ok, Err, refl, ap, sym, ◌∙◌, subst, arith}
use Rattle.std.proofs.lemmas.Bool.{cond_both, eqb-true}
use Rattle.std.proofs.lemmas.Bool.Decides.{nat_tests}
use Rattle.iop_base.specs.declared.code.Code.{Code}
use Rattle.iop_base.specs.declared.code.TheConstants.Code.{UNKNOWN_THREAD, NOT_DORMANT}
use Rattle.iop_exec.specs.declared.cpu.Cpu.{Cpu}
use Rattle.iop_thread.specs.declared.param.Param.{Param}
use Rattle.iop_thread.specs.declared.state.State.{State}
use Rattle.iop_thread.specs.declared.state.State.TheVariants.{Dormant, Ready}
use Rattle.iop_thread.specs.declared.thread.Thread.{Thread}
use Rattle.iop_thread.specs.declared.wait.Wait.{Wait}
use Rattle.iop_thread.specs.Operations.{dormant_thread, creates, deletes_it, starts_it, begins_it, ends_it, terminates_it, changes_it}
use Rattle.iop_thread.specs.Placing.{IsPlaced}
use Rattle.iop_thread.specs.States.{is_dormant, is_running, wait_in, first_registers}
use Rattle.iop_thread.specs.ThreadTable.{ThreadTable, as_at_first, thread_of, running_thread, runs, has_room}
use Rattle.iop_thread.specs.Waits.{is_live, wait_of, Shows, WaitOn, WaitBut, running_but}
use Rattle.iop_thread.proofs.LiveThreads.{changed, without_thread, thread_of_added, thread_of_without, none_of_next, thread_of_id}
use Rattle.iop_thread.proofs.FindingThreads.{Finds, finds_by_id, dormant_state, running_thread_runs, none_runs, either_way}
use Rattle.iop_thread.proofs.Moving.{found_there, live_leaving}
use Rattle.iop_thread.proofs.WaitingOn.{found_wait, on_same, but_same, on_changed, but_changed, running_without, running_beside, running_leaving}

-- a dormant thread waits for nothing, and so does one that runs
pub dormant_waits : (state : State) → is_dormant state ≡ true → wait_in state ≡ None
dormant_waits state is = ap wait_in (dormant_state state is)

pub dormant_stands : (state : State) → is_dormant state ≡ true → is_running state ≡ false
dormant_stands state is = ap is_running (dormant_state state is)

module _ (s : ThreadTable) (placed : IsPlaced s) where
  -- nothing changes
  pub nothing : WaitOn s s s.running
  nothing = on_same s s refl s.running refl

  -- a thread is made
  pub moves_made : (param : Param) (stack gp : ℕ) (b : Bool) → has_room s ≡ b
      → let done = creates s param stack gp in
      Shows done.1 (λ id. is_live s id || is_ok done.0 && id == s.next) (wait_of s) s.running
  moves_made param stack gp true room =
      let none = none_of_next s.live s.next placed.ids.given in
      let u = dormant_thread s.next param stack gp in
      record {
        live = λ id. let added = thread_of_added s.live u id none in
            grind (arith, nat_tests, room, added, none);
        waits = λ id. let added = thread_of_added s.live u id none in
            grind (arith, nat_tests, room, added, none);
        running = rw room refl;
      }
  moves_made param stack gp false full = record {
    live = λ id. grind (arith, nat_tests, full);
    waits = λ id. rw full refl;
    running = rw full refl;
  }

  -- a dormant thread is deleted
  module _ (id : ℕ) where
    abbrev IsDeleted : Result ℕ Code × ThreadTable → Type 0
    IsDeleted done =
        Shows done.1 (λ other. is_live s other && not (is_ok done.0 && other == id)) (wait_of s)
        s.running

    -- nothing is
    not_deleted : (code : Code) → IsDeleted (Err code, s)
    not_deleted code = record {
      live = λ other. grind (arith, nat_tests);
      waits = λ other. refl;
      running = refl;
    }

    -- it is gone
    gone : (t : Thread) → thread_of s.live id ≡ Some t → is_dormant t.state ≡ true
        → IsDeleted (Ok t.stack, record s { live = without_thread t.id s.live })
    gone t found dormant =
        let same = thread_of_id s.live id t found in
        record {
          live = λ other. let left = thread_of_without s.live t.id other in
              grind (arith, nat_tests, left, same);
          waits = λ other. ap found_wait (thread_of_without s.live t.id other)
              ∙ by other (other == t.id) refl;
          running = refl;
        }
      where
        by : (other : ℕ) (b : Bool) → (other == t.id) ≡ b
            → found_wait (if b then None else thread_of s.live other) ≡ wait_of s other
        by other true it =
            sym (ap found_wait (found_there s.live t t other (finds_by_id s id t found) it)
            ∙ dormant_waits t.state dormant)
        by other false apart = refl

    pub moves_deletes_it : (o : Option Thread) → thread_of s.live id ≡ o
        → IsDeleted (deletes_it s o)
    moves_deletes_it None found = not_deleted UNKNOWN_THREAD
    moves_deletes_it (Some t) found =
        let left = record s { live = without_thread t.id s.live } in
        cond_both (is_dormant t.state) (Ok t.stack, left) (Err NOT_DORMANT, s) IsDeleted
        (gone t found) (λ other. not_deleted NOT_DORMANT)

  -- a thread that was dormant goes to the ready list
  pub moves_starts_it : (argument : ℕ) (o : Option Thread) → Finds s o
      → WaitOn s (starts_it s argument o).1 s.running
  moves_starts_it argument None finds = nothing
  moves_starts_it argument (Some t) finds =
      either_way (λ r. WaitOn s r s.running) (is_dormant t.state) _ _
      (λ dormant. on_changed s t
      (record (as_at_first t) { state = Ready (first_registers t argument) }) (finds t refl) _ refl
      s.running refl (sym (dormant_waits t.state dormant)))
      (λ other. nothing)

  -- the loader's thread begins, if it is dormant
  pub moves_begins_it : (registers : Cpu) (o : Option Thread) → Finds s o
      → WaitOn s (begins_it s registers o) s.running
  moves_begins_it registers None finds = nothing
  moves_begins_it registers (Some t) finds =
      cond_both (is_dormant t.state) _ _ (λ r. WaitOn s r s.running)
      (λ dormant. on_changed s t (record t { state = Ready registers }) (finds t refl) _ refl
      s.running refl (sym (dormant_waits t.state dormant)))
      (λ other. nothing)

  -- the running thread ends
  pub moves_ends_it : (o : Option Thread) → running_thread s ≡ o → WaitOn s (ends_it s o) None
  moves_ends_it None is = on_same s s refl None (none_runs s placed is)
  moves_ends_it (Some t) is =
      let runs = running_thread_runs s placed t is in
      on_changed s t (record t { state = Dormant }) runs.found _ refl None refl
      (sym (ap wait_in runs.is))

  -- nothing changes, and the thread of an id, if there is one, waits for this already
  pub but_nothing : (id : ℕ) (wait : Option Wait) → wait_of s id ≡ wait → (running : Option ℕ)
      → s.running ≡ running → WaitBut s s (Some id) wait running
  but_nothing id wait there running runs =
      but_same s (Some id) wait (λ other it. ap (wait_of s) (sym (eqb-true id other it)) ∙ there)
      running runs

  -- the thread that an id finds changes, and waits for this
  pub but_found : (id : ℕ) (t u : Thread) → thread_of s.live id ≡ Some t → u.id ≡ t.id
      → (left : ThreadTable) → left.live ≡ changed u s.live → (running : Option ℕ)
      → left.running ≡ running → (wait : Option Wait) → wait_in u.state ≡ wait
      → WaitBut s left (Some id) wait running
  but_found id t u found same left live running runs wait now =
      let is : u.id ≡ id = same ∙ thread_of_id s.live id t found in
      subst (λ id. WaitBut s left (Some id) wait running) is
      (but_changed s t u (ap (thread_of s.live) is ∙ found) left live running runs wait now)

  -- a thread is ended by another
  pub moves_terminates_it : (id : ℕ) (o : Option Thread) → thread_of s.live id ≡ o
      → WaitBut s (terminates_it s o).1 (Some id) None (running_but s id)
  moves_terminates_it id None found =
      but_nothing id None (ap found_wait found) _ (running_without s placed id found)
  moves_terminates_it id (Some t) found =
      let u = record t { state = Dormant } in
      either_way (λ r. WaitBut s r (Some id) None (running_but s id)) (is_dormant t.state) _ _
      (λ dormant. but_nothing id None (ap found_wait found ∙ dormant_waits t.state dormant) _
      (running_beside s placed id t found (dormant_stands t.state dormant)))
      (λ other. but_found id t u found refl _ (ap (changed u) (live_leaving s t t.state)) _
      (running_leaving s placed id t found) None refl)

  -- the priority of a thread changes
  pub moves_changes_it : (priority : ℕ) (o : Option Thread) → Finds s o
      → WaitOn s (changes_it s priority o).1 s.running
  moves_changes_it priority None finds = nothing
  moves_changes_it priority (Some t) finds =
      either_way (λ r. WaitOn s r s.running) (is_dormant t.state) _ _ (λ dormant. nothing)
      (λ other. on_changed s t (record t { priority = priority }) (finds t refl) _ refl s.running
      refl refl)
