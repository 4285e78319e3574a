-- What each operation changes: one thread, or none, and its place among the ready ones.
use Rattle.std.proofs.Common.{◌≡◌, ◌≢◌, ℕ, ◌==◌, nat_lt, true, false, option_map, Option, Some, None, [], ◌∷◌, ◌++◌, refl, ap, sym, ◌∙◌, subst}
use Rattle.std.proofs.lemmas.Bool.{cond_both}
use Rattle.std.proofs.lemmas.Option.{cond_some, same_Some}
use Rattle.iop_exec.specs.declared.cpu.Cpu.{Cpu}
use Rattle.iop_thread.specs.Changes.{in_new_state, Rotates, Switches, OperationsChangeOne}
use Rattle.iop_thread.specs.Operations.{rotates_ready, rotates_it, Dispatch, dispatches_by}
use Rattle.iop_thread.specs.Placing.{IsPlaced}
use Rattle.iop_thread.specs.ThreadTable.{ThreadTable, thread_of, without, has_priority, running_thread, best_ready, first_ready, ready_last, leaves, runs}
use Rattle.iop_thread.specs.declared.state.State.{State}
use Rattle.iop_thread.specs.declared.state.State.TheVariants.{Running, Ready}
use Rattle.iop_thread.specs.declared.thread.Thread.{Thread}
use Rattle.iop_thread.specs.declared.thread.TheConstants.{LOADER}
use Rattle.iop_thread.proofs.Changing.{own_changed, other_changed, runs_on}
use Rattle.iop_thread.proofs.ChangesStarting.{one_creates, one_deletes_it, one_starts_it, one_begins_it, one_ends_it, one_terminates_it, one_changes_it}
use Rattle.iop_thread.proofs.ChangesWaking.{goes_to, one_wakes_it, one_suspends_it, one_resumes_it, one_wakes_up_it, one_cancels_it, one_blocks_it, one_takes_wakeup_it}
use Rattle.iop_thread.proofs.Dispatching.{found_behind}
use Rattle.iop_thread.proofs.FindingThreads.{Runs, IsReady, running_thread_runs, none_runs, best_is_ready, running_id}
use Rattle.iop_thread.proofs.LiveThreads.{changed}

module _ (s : ThreadTable) (placed : IsPlaced s) where
  -- no thread changes, and a ready one may be moved
  rotates_ready_on : (priority : ℕ) (registers : Cpu)
      → has_priority priority (running_thread s) ≡ false → (o : Option ℕ)
      → first_ready s priority ≡ o → Rotates s (rotates_ready s o) priority registers
  rotates_ready_on priority registers fails None none = record {
    gives_way = λ id at holds. absurd (cc (fails, holds));
    stays = λ so id. refl;
    moved = λ so id first. absurd (cc (none, first));
    same = λ so first. refl;
    next = refl;
  }
  rotates_ready_on priority registers fails (Some one) is = record {
    gives_way = λ id at holds. absurd (cc (fails, holds));
    stays = λ so id. refl;
    moved = λ so id first. ap (λ one. without one s.ready ++ one ∷ [])
        (same_Some one id (sym is ∙ first));
    same = λ so first. absurd (cc (is, first));
    next = refl;
  }

  -- the running thread is put behind all others, if it has the priority
  one_rotates_it : (priority : ℕ) (registers : Cpu) (o : Option Thread) → running_thread s ≡ o
      → Rotates s (rotates_it s priority registers o) priority registers
  one_rotates_it priority registers None is =
      rotates_ready_on priority registers (ap (has_priority priority) is)
      (first_ready s priority) refl
  one_rotates_it priority registers (Some t) is =
      cond_both (t.priority == priority) _ _ (λ left. Rotates s left priority registers)
      (λ same. gives (ap (has_priority priority) is ∙ same))
      (λ other. rotates_ready_on priority registers (ap (has_priority priority) is ∙ other)
      (first_ready s priority) refl)
    where
      gives : has_priority priority (running_thread s) ≡ true
          → Rotates s (ready_last (leaves s t Running) t registers) priority registers
      gives holds =
          let runs = running_thread_runs s placed t is in
          let change = λ (state : State). Ready registers in
          let turns = runs_on s t _ (in_new_state change) (running_id s t is)
          (goes_to s t.id true change t runs.found Running runs.is refl
          (ready_last (leaves s t Running) t registers) refl refl refl) in
          record {
            gives_way = λ id at so. turns.running id at;
            stays = λ fails. absurd (cc (fails, holds));
            moved = λ fails. absurd (cc (fails, holds));
            same = λ fails. absurd (cc (fails, holds));
            next = refl;
          }

module _ (s : ThreadTable) (placed : IsPlaced s) (given : Cpu) (d : Dispatch) where
  -- a ready thread is not the one that runs
  runs_apart : (r t : Thread) → Runs s r → IsReady s t → r.id ≢ t.id
  runs_apart r t runs ready same =
      let is : r ≡ t = same_Some r t (sym runs.found ∙ ap (thread_of s.live) same ∙ ready.found) in
      let state : Running ≡ Ready ready.own = sym runs.is ∙ ap (λ (u : Thread). u.state) is ∙ ready.is in
      cc

  -- a dispatch, by the running thread and the best ready one
  switches_by : (running best : Option Thread) → running_thread s ≡ running → best_ready s ≡ best
      → dispatches_by s given running best ≡ Some d → Switches s given d
  switches_by None None at is did = cc
  switches_by (Some r) None at is did = cc
  switches_by None (Some t) at is did =
      let ready = best_is_ready s placed t is in
      let none = none_runs s placed at in
      let u = record t { state = Running } in
      subst (Switches s given) (same_Some _ d did) (record {
        runs = own_changed s.live t u t.id ready.found refl
            ∙ sym (ap (option_map (λ (t : Thread). record t { state = Running })) ready.found);
        gave_way = λ r runs. absurd (cc (runs, none));
        others = λ other apart idle. other_changed s.live u other apart;
        next = refl;
      })
  switches_by (Some r) (Some t) at is did =
      let ready = best_is_ready s placed t is in
      let running = running_thread_runs s placed r at in
      let v = record r { state = Ready given } in
      let u = record t { state = Running } in
      let first = changed v s.live in
      let apart = runs_apart r t running ready in
      let by = cond_some (nat_lt t.priority r.priority) _ d did in
      subst (Switches s given) by.1 (record {
        runs = own_changed first t u t.id (found_behind s r t given running ready) refl
            ∙ sym (ap (option_map (λ (t : Thread). record t { state = Running })) ready.found);
        gave_way = λ id runs. subst (λ id. thread_of (changed u first) id
            ≡ option_map (λ (t : Thread). record t { state = Ready given }) (thread_of s.live id))
            (same_Some r.id id (sym (running_id s r at) ∙ runs))
            (other_changed first u r.id apart ∙ own_changed s.live r v r.id running.found refl
            ∙ sym (ap (option_map (λ (t : Thread). record t { state = Ready given })) running.found));
        others = λ other aside idle. other_changed first u other aside
            ∙ other_changed s.live v other
            (λ same. idle (running_id s r at ∙ ap Some (sym same)));
        next = refl;
      })

-- what each operation changes
pub moves_one : OperationsChangeOne
moves_one s placed = record {
  creates = λ param stack gp. one_creates s placed param stack gp;
  deletes = λ id. one_deletes_it s id (thread_of s.live id) refl;
  starts = λ id argument. one_starts_it s id argument (thread_of s.live id) refl;
  begins = λ registers. one_begins_it s LOADER registers (thread_of s.live LOADER) refl;
  ends_running = one_ends_it s placed (running_thread s) refl;
  terminates = λ id. one_terminates_it s id (thread_of s.live id) refl;
  changes = λ id priority. one_changes_it s id priority (thread_of s.live id) refl;
  rotates = λ priority registers.
      one_rotates_it s placed priority registers (running_thread s) refl;
  blocks = λ wait registers. one_blocks_it s placed wait registers (running_thread s) refl;
  wakes = λ id answer. one_wakes_it s id answer (thread_of s.live id) refl;
  suspends = λ id registers. one_suspends_it s id registers (thread_of s.live id) refl;
  resumes = λ id. one_resumes_it s id (thread_of s.live id) refl;
  wakes_up = λ id. one_wakes_up_it s id (thread_of s.live id) refl;
  cancels = λ id. one_cancels_it s id (thread_of s.live id) refl;
  takes_wakeup = one_takes_wakeup_it s placed (running_thread s) refl;
  dispatches = λ registers d did.
      switches_by s placed registers d (running_thread s) (best_ready s) refl refl did;
}
