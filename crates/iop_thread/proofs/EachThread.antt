-- What holds of each thread, at first and after each change of one, holds of all threads after each
-- operation.
use Rattle.std.proofs.Common.{◌≡◌, ℕ, ◌+◌, ◌-◌, ◌≤◌, ◌==◌, min, Bool, false, not, nat_lt, if◌then◌else◌, option_and_then, Option, Some, None, IfSome, All, refl, sym, subst, arith}
use Rattle.std.proofs.lemmas.Bool.{cond_both}
use Rattle.std.proofs.lemmas.List.Elements.{All-contains, All-filter, All-map, All-push, All-weaker}
use Rattle.std.proofs.lemmas.Option.{cond_some, same_Some}
use Rattle.iop_exec.specs.declared.cpu.Cpu.{Cpu}
use Rattle.iop_thread.specs.declared.param.Param.{Param}
use Rattle.iop_thread.specs.declared.state.State.{State}
use Rattle.iop_thread.specs.declared.state.State.TheVariants.{Dormant, Running, Ready, Waiting, Suspended, WaitingSuspended}
use Rattle.iop_thread.specs.declared.thread.Thread.{Thread}
use Rattle.iop_thread.specs.declared.thread.TheConstants.{LOADER, MOST_WAKEUPS}
use Rattle.iop_thread.specs.declared.wait.Wait.{Wait}
use Rattle.iop_thread.specs.Laws.{Keeps}
use Rattle.iop_thread.specs.States.{is_dormant, wait_in, sleeps, suspended_state, with_answer, first_registers}
use Rattle.iop_thread.specs.ThreadTable.{ThreadTable, thread_of, as_at_first, with_thread, leaves, ready_last, ready_first, running_thread, best_ready, first_ready, has_room}
use Rattle.iop_thread.specs.Operations.{dormant_thread, creates, deletes_it, starts_it, begins_it, ends_it, terminates_it, changes_it, rotates_ready, rotates_it, blocks_it, wakes_in, wakes_it, suspends_it, resumes_in, resumes_it, wakes_up_by, wakes_up_it, cancels_it, takes_wakeup_it, Dispatch, ready_registers, dispatches_it, dispatches_by}
use Rattle.iop_thread.proofs.LiveThreads.{thread_of_is_live}
use Rattle.iop_thread.proofs.FindingThreads.{either_way}
use Rattle.iop_thread.proofs.Moving.{live_leaving}

module _ (Is : Thread → Type 0) (MayHave : Cpu → Type 0)
    (MayWait : ThreadTable → Wait → Cpu → Type 0) where
  -- it holds of a thread at first, and after each change of one
  pub record Lasts : Type 0 where
    pub first : (id : ℕ) (param : Param) (stack gp : ℕ) → Is (dormant_thread id param stack gp)
    pub starts : (t : Thread) (argument : ℕ) → Is t
        → Is (record (as_at_first t) { state = Ready (first_registers t argument) })
    pub readies : (t : Thread) (registers : Cpu) → MayHave registers → Is t
        → Is (record t { state = Ready registers })
    pub runs : (t : Thread) → Is t → Is (record t { state = Running })
    pub ends : (t : Thread) → Is t → Is (record t { state = Dormant })
    pub changes : (t : Thread) (priority : ℕ) → Is t → Is (record t { priority = priority })
    pub waits : (s : ThreadTable) (t : Thread) (wait : Wait) (registers : Cpu)
        → running_thread s ≡ Some t → MayHave registers → MayWait s wait registers → Is t
        → Is (record t { state = Waiting wait registers })
    pub wakes : (t : Thread) (wait : Wait) (own : Cpu) (answer : ℕ) → t.state ≡ Waiting wait own
        → Is t → Is (record t { state = Ready (with_answer own answer) })
    pub wakes_suspended : (t : Thread) (wait : Wait) (own : Cpu) (answer : ℕ)
        → t.state ≡ WaitingSuspended wait own → Is t
        → Is (record t { state = Suspended (with_answer own answer) })
    pub suspends : (t : Thread) (registers : Cpu) → MayHave registers → Is t
        → Is (record t { state = suspended_state registers t.state })
    pub resumes : (t : Thread) (own : Cpu) → t.state ≡ Suspended own → Is t
        → Is (record t { state = Ready own })
    pub resumes_waiting : (t : Thread) (wait : Wait) (own : Cpu)
        → t.state ≡ WaitingSuspended wait own → Is t
        → Is (record t { state = Waiting wait own })
    pub wakes_more : (t : Thread) (wakeups : ℕ) → sleeps (wait_in t.state) ≡ false → Is t
        → Is (record t { wakeups = wakeups })
    pub wakes_less : (t : Thread) (wakeups : ℕ) → wakeups ≤ t.wakeups → Is t
        → Is (record t { wakeups = wakeups })
    pub goes_on : (t : Thread) (registers : Cpu) → MayHave registers → Is t
        → MayHave (ready_registers t.state registers)

  -- it holds of all live threads
  abbrev pub Each : ThreadTable → Type 0
  Each s = All Is s.live

  -- of two ways, both leave such threads
  each_either : {A : Type 0} (b : Bool) (x y : A × ThreadTable) → Each x.1 → Each y.1
      → Each (if b then x else y).1
  each_either b x y first second = either_way Each b x y (λ is. first) (λ other. second)

  module _ (s : ThreadTable) (all : Each s) where
    -- a thread changes to one of which it holds
    each_with : (t : Thread) → Is t → Each (with_thread s t)
    each_with t is =
        let change = λ (u : Thread). if u.id == t.id then t else u in
        All-map Is change s.live
        (All-weaker Is (λ u. Is (change u))
        (λ u was. cond_both (u.id == t.id) t u Is (λ same. is) (λ other. was)) s.live all)

    -- a thread that leaves where it is does not change
    each_leaving : (t : Thread) (state : State) → Each (leaves s t state)
    each_leaving t state = subst (All Is) (sym (live_leaving s t state)) all

    -- it holds of the thread that an id finds
    each_found : (id : ℕ) (o : Option Thread) → thread_of s.live id ≡ o → IfSome o Is
    each_found id None found = tt
    each_found id (Some t) found =
        All-contains Is s.live t all (thread_of_is_live s.live id t found)

    -- so it does of that of an id, where there is one
    each_of : (o : Option ℕ) → IfSome (option_and_then (thread_of s.live) o) Is
    each_of None = tt
    each_of (Some id) = each_found id (thread_of s.live id) refl

  module _ (h : Lasts) (s : ThreadTable) (all : Each s) where
    -- a thread is made, where there is room
    each_creates : (param : Param) (stack gp : ℕ) → Each (creates s param stack gp).1
    each_creates param stack gp =
        each_either (has_room s) _ _
        (All-push Is s.live (dormant_thread s.next param stack gp) all
        (h.first s.next param stack gp))
        all

    -- a thread is deleted, if it is dormant
    each_deletes_it : (o : Option Thread) → Each (deletes_it s o).1
    each_deletes_it None = all
    each_deletes_it (Some t) =
        each_either (is_dormant t.state) _ _
        (All-filter (λ u. not (u.id == t.id)) Is s.live all) all

    -- a thread is started, if it is dormant
    each_starts_it : (argument : ℕ) (o : Option Thread) → IfSome o Is
        → Each (starts_it s argument o).1
    each_starts_it argument None is = all
    each_starts_it argument (Some t) is =
        each_either (is_dormant t.state) _ _ (each_with s all _ (h.starts t argument is)) all

    -- the loader's thread begins, if it is dormant
    each_begins_it : (registers : Cpu) → MayHave registers → (o : Option Thread) → IfSome o Is
        → Each (begins_it s registers o)
    each_begins_it registers may None is = all
    each_begins_it registers may (Some t) is =
        cond_both (is_dormant t.state) (ready_last s t registers) s Each
        (λ dormant. each_with s all _ (h.readies t registers may is)) (λ other. all)

    -- the running thread ends
    each_ends_it : (o : Option Thread) → IfSome o Is → Each (ends_it s o)
    each_ends_it None is = all
    each_ends_it (Some t) is = each_with s all _ (h.ends t is)

    -- a thread is ended by another
    each_terminates_it : (o : Option Thread) → IfSome o Is → Each (terminates_it s o).1
    each_terminates_it None is = all
    each_terminates_it (Some t) is =
        each_either (is_dormant t.state) _ _ all
        (each_with (leaves s t t.state) (each_leaving s all t t.state) _ (h.ends t is))

    -- the priority of a thread changes, if it is not dormant
    each_changes_it : (priority : ℕ) (o : Option Thread) → IfSome o Is
        → Each (changes_it s priority o).1
    each_changes_it priority None is = all
    each_changes_it priority (Some t) is =
        each_either (is_dormant t.state) _ _ all (each_with s all _ (h.changes t priority is))

    -- the first ready thread of a priority is moved
    each_rotates_ready : (o : Option ℕ) → Each (rotates_ready s o)
    each_rotates_ready None = all
    each_rotates_ready (Some id) = all

    -- the running thread is put behind all others, or a ready one is
    each_rotates_it : (priority : ℕ) (registers : Cpu) → MayHave registers → (o : Option Thread)
        → IfSome o Is → Each (rotates_it s priority registers o)
    each_rotates_it priority registers may None is = each_rotates_ready (first_ready s priority)
    each_rotates_it priority registers may (Some t) is =
        cond_both (t.priority == priority) (ready_last (leaves s t Running) t registers)
        (rotates_ready s (first_ready s priority)) Each
        (λ same. each_with s all _ (h.readies t registers may is))
        (λ other. each_rotates_ready (first_ready s priority))

    -- the running thread waits
    each_blocks_it : (wait : Wait) (registers : Cpu) → MayHave registers → MayWait s wait registers
        → (o : Option Thread) → running_thread s ≡ o → IfSome o Is
        → Each (blocks_it s wait registers o)
    each_blocks_it wait registers may waits None at is = all
    each_blocks_it wait registers may waits (Some t) at is =
        each_with s all _ (h.waits s t wait registers at may waits is)

    -- a wait ends, by the state that the thread is in
    each_wakes_in : (answer : ℕ) (t : Thread) → Is t → (state : State) → t.state ≡ state
        → Each (wakes_in s answer t state)
    each_wakes_in answer t is Dormant at = all
    each_wakes_in answer t is Running at = all
    each_wakes_in answer t is (Ready own) at = all
    each_wakes_in answer t is (Waiting wait own) at =
        each_with s all _ (h.wakes t wait own answer at is)
    each_wakes_in answer t is (Suspended own) at = all
    each_wakes_in answer t is (WaitingSuspended wait own) at =
        each_with s all _ (h.wakes_suspended t wait own answer at is)

    -- the wait of a thread ends, if one is found
    each_wakes_it : (answer : ℕ) (o : Option Thread) → IfSome o Is → Each (wakes_it s answer o)
    each_wakes_it answer None is = all
    each_wakes_it answer (Some t) is = each_wakes_in answer t is t.state refl

    -- a thread is suspended
    each_suspends_it : (registers : Cpu) → MayHave registers → (o : Option Thread) → IfSome o Is
        → Each (suspends_it s registers o).1
    each_suspends_it registers may None is = all
    each_suspends_it registers may (Some t) is =
        each_either (is_dormant t.state) _ _ all
        (each_with (leaves s t t.state) (each_leaving s all t t.state) _
        (h.suspends t registers may is))

    -- a thread is resumed, by the state that it is in
    each_resumes_in : (t : Thread) → Is t → (state : State) → t.state ≡ state
        → Each (resumes_in s t state).1
    each_resumes_in t is Dormant at = all
    each_resumes_in t is Running at = all
    each_resumes_in t is (Ready own) at = all
    each_resumes_in t is (Waiting wait own) at = all
    each_resumes_in t is (Suspended own) at = each_with s all _ (h.resumes t own at is)
    each_resumes_in t is (WaitingSuspended wait own) at =
        each_with s all _ (h.resumes_waiting t wait own at is)

    -- a thread is resumed, if one is found
    each_resumes_it : (o : Option Thread) → IfSome o Is → Each (resumes_it s o).1
    each_resumes_it None is = all
    each_resumes_it (Some t) is = each_resumes_in t is t.state refl

    -- a thread is woken, by whether it sleeps
    each_wakes_up_by : (t : Thread) → Is t → Each (wakes_up_by s t)
    each_wakes_up_by t is =
        cond_both (sleeps (wait_in t.state)) _ _ Each
        (λ asleep. each_wakes_in 0 t is t.state refl)
        (λ other. each_with s all _ (h.wakes_more t (min (t.wakeups + 1) MOST_WAKEUPS) other is))

    -- a thread is woken, if one is found
    each_wakes_up_it : (o : Option Thread) → IfSome o Is → Each (wakes_up_it s o).1
    each_wakes_up_it None is = all
    each_wakes_up_it (Some t) is =
        each_either (is_dormant t.state) _ _ all (each_wakes_up_by t is)

    -- the wakeups of a thread are forgotten
    each_cancels_it : (o : Option Thread) → IfSome o Is → Each (cancels_it s o).1
    each_cancels_it None is = all
    each_cancels_it (Some t) is =
        each_either (is_dormant t.state) _ _ all
        (each_with s all _ (h.wakes_less t 0 (omega arith) is))

    -- the running thread takes a wakeup
    each_takes_wakeup_it : (o : Option Thread) → IfSome o Is → Each (takes_wakeup_it s o).1
    each_takes_wakeup_it None is = all
    each_takes_wakeup_it (Some t) is =
        each_either (nat_lt 0 t.wakeups) _ _
        (each_with s all _ (h.wakes_less t (t.wakeups - 1) (omega arith) is)) all

  module _ (h : Lasts) (registers : Cpu) (may : MayHave registers) (d : Dispatch) where
    -- a thread runs, with its registers or the processor's
    each_runs : (s : ThreadTable) → Each s → (t : Thread) → Is t → dispatches_it s registers t ≡ d
        → Each d.threads × MayHave d.registers
    each_runs s all t is did =
        subst (λ (d : Dispatch). Each d.threads × MayHave d.registers) did
        (each_with s all _ (h.runs t is), h.goes_on t registers may is)

    -- a dispatch, by the running thread and the best ready one
    each_dispatches_by : (s : ThreadTable) → Each s → (running best : Option Thread)
        → IfSome running Is → IfSome best Is → dispatches_by s registers running best ≡ Some d
        → Each d.threads × MayHave d.registers
    each_dispatches_by s all None None runs is did = cc
    each_dispatches_by s all (Some r) None runs is did = cc
    each_dispatches_by s all None (Some t) runs is did = each_runs s all t is (same_Some _ d did)
    each_dispatches_by s all (Some r) (Some t) runs is did =
        each_runs (ready_first s r registers)
        (each_with s all _ (h.readies r registers may runs)) t is
        (cond_some (nat_lt t.priority r.priority) _ d did).1

  -- each operation leaves threads of which it holds
  pub keeps_each : Lasts → (s : ThreadTable) → Each s → Keeps Each MayHave MayWait s
  keeps_each h s all = record {
    creates = each_creates h s all;
    deletes = λ id. each_deletes_it h s all (thread_of s.live id);
    starts = λ id argument. each_starts_it h s all argument _ (each_of s all (Some id));
    begins = λ registers may. each_begins_it h s all registers may _ (each_of s all (Some LOADER));
    ends_running = each_ends_it h s all _ (each_of s all s.running);
    terminates = λ id. each_terminates_it h s all _ (each_of s all (Some id));
    changes = λ id priority. each_changes_it h s all priority _ (each_of s all (Some id));
    rotates = λ priority registers may.
        each_rotates_it h s all priority registers may _ (each_of s all s.running);
    blocks = λ wait registers may waits.
        each_blocks_it h s all wait registers may waits _ refl (each_of s all s.running);
    wakes = λ id answer. each_wakes_it h s all answer _ (each_of s all (Some id));
    suspends = λ id registers may.
        each_suspends_it h s all registers may _ (each_of s all (Some id));
    resumes = λ id. each_resumes_it h s all _ (each_of s all (Some id));
    wakes_up = λ id. each_wakes_up_it h s all _ (each_of s all (Some id));
    cancels = λ id. each_cancels_it h s all _ (each_of s all (Some id));
    takes_wakeup = each_takes_wakeup_it h s all _ (each_of s all s.running);
    dispatches = λ registers d may did.
        each_dispatches_by h registers may d s all (running_thread s) (best_ready s)
        (each_of s all s.running) (each_of s all _) did;
  }
