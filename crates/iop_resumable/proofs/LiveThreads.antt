-- What holds of the live threads holds after each operation, if it lasts where one of them changes,
-- comes or goes.
use Rattle.std.proofs.Common.{◌≡◌, ℕ, ◌+◌, ◌-◌, ◌≤◌, ◌==◌, min, Bool, true, false, nat_lt, not, if◌then◌else◌, option_and_then, Option, Some, None, IfSome, Result, List, [], ◌∷◌, ◌++◌, All, refl, sym, subst, arith}
use Rattle.std.proofs.lemmas.Bool.{cond_both}
use Rattle.std.proofs.lemmas.List.Elements.{All-contains, All-filter, All-map, All-weaker}
use Rattle.std.proofs.lemmas.Option.{cond_some, same_Some}
use Rattle.iop_base.specs.declared.code.Code.{Code}
use Rattle.iop_exec.specs.declared.cpu.Cpu.{Cpu}
use Rattle.iop_ready.specs.Priorities.{IsPriority}
use Rattle.iop_thread.specs.Operations.{Dispatch, creates, deletes_it, deletes, starts_it, starts, begins_it, begins, ends_it, ends_running, terminates_it, terminates, changes_it, changes, rotates_ready, rotates_it, rotates, blocks_it, blocks, wakes_in, wakes_it, wakes, suspends_it, suspends, resumes_in, resumes_it, resumes, wakes_up_by, wakes_up_it, wakes_up, cancels_it, cancels, takes_wakeup_it, takes_wakeup, dispatches_by, dispatches_it, dispatches, dormant_thread}
use Rattle.iop_thread.specs.States.{is_dormant, wait_in, sleeps}
use Rattle.iop_thread.specs.ThreadTable.{ThreadTable, thread_of, with_thread, leaves, as_at_first, ready_last, ready_first, running_thread, best_ready, first_ready, has_room}
use Rattle.iop_thread.specs.declared.param.Param.{Param}
use Rattle.iop_thread.specs.declared.state.State.{State}
use Rattle.iop_thread.specs.declared.state.State.TheVariants.{Dormant, Running, Ready, Waiting, Suspended, WaitingSuspended}
use Rattle.iop_thread.specs.declared.thread.TheConstants.{LOADER, MOST_WAKEUPS}
use Rattle.iop_thread.specs.declared.thread.Thread.{Thread}
use Rattle.iop_thread.specs.declared.wait.Wait.{Wait}
use Rattle.iop_thread.proofs.LiveThreads.{changed, without_thread, thread_of_id, thread_of_is_live}
use Rattle.iop_thread.proofs.Moving.{live_leaving}

-- what holds of one thread stays so when it changes
pub record OneStays (Has : Thread → Type 0) : Type 0 where
  pub in_state : (t : Thread) (state : State) → Has t → Has (record t { state = state })
  pub starts : (t : Thread) (state : State) → Has t
      → Has (record (as_at_first t) { state = state })
  pub wakes_more : (t : Thread) → Has t
      → Has (record t { wakeups = min (t.wakeups + 1) MOST_WAKEUPS })
  pub wakes_less : (t : Thread) (wakeups : ℕ) → wakeups ≤ t.wakeups → Has t
      → Has (record t { wakeups = wakeups })
  pub changes : (t : Thread) (priority : ℕ) → IsPriority priority → Has t
      → Has (record t { priority = priority })

-- and what holds of the live ones when one changes, or goes that is not the loader's
pub record Stays (Have : List Thread → Type 0) (Has : Thread → Type 0) : Type 0 where
  pub one : OneStays Has
  pub each : (live : List Thread) (id : ℕ) (t : Thread) → Have live → thread_of live id ≡ Some t
      → Has t
  pub replaces : (live : List Thread) (t : Thread) → Have live → Has t → Have (changed t live)
  pub loses : (live : List Thread) (id : ℕ) → (id == LOADER) ≡ false → Have live
      → Have (without_thread id live)

-- so it is of what holds of each
pub each_stays : (Has : Thread → Type 0) → OneStays Has → Stays (All Has) Has
each_stays Has one = record {
  one = one;
  each = λ live id t all is. All-contains Has live t all (thread_of_is_live live id t is);
  replaces = λ live t all is. let change = λ (u : Thread). if u.id == t.id then t else u in
      All-map Has change live
      (All-weaker Has (λ u. Has (change u))
      (λ u was. cond_both (u.id == t.id) t u Has (λ same. is) (λ other. was)) live all);
  loses = λ live id other all. All-filter (λ u. not (u.id == id)) Has live all;
}

module _ (Have : List Thread → Type 0) (Has : Thread → Type 0) (h : Stays Have Has) where
  abbrev pub Of : ThreadTable → Type 0
  Of s = Have s.live

  module _ (s : ThreadTable) (all : Of s) where
    -- a thread changes to one of which it holds
    each_with : (t : Thread) → Has t → Of (with_thread s t)
    each_with t is = h.replaces s.live t all is

    each_leaving : (t : Thread) (state : State) → Of (leaves s t state)
    each_leaving t state = subst Have (sym (live_leaving s t state)) all

    -- it holds of the thread that an id finds
    found : (id : ℕ) (o : Option Thread) → thread_of s.live id ≡ o → IfSome o Has
    found id None is = tt
    found id (Some t) is = h.each s.live id t all is

    of_id : (o : Option ℕ) → IfSome (option_and_then (thread_of s.live) o) Has
    of_id None = tt
    of_id (Some id) = found id (thread_of s.live id) refl

    -- of two ways, both leave such threads
    either : {A : Type 0} (b : Bool) (x y : A × ThreadTable) → Of x.1 → Of y.1
        → Of (if b then x else y).1
    either {A} b x y first second =
        cond_both b x y (λ (r : A × ThreadTable). Of r.1) (λ is. first) (λ other. second)

    deletes_by : (o : Option Thread) → IfSome o (λ t. (t.id == LOADER) ≡ false)
        → Of (deletes_it s o).1
    deletes_by None other = all
    deletes_by (Some t) other =
        either (is_dormant t.state) _ _ (h.loses s.live t.id other all) all

    -- the thread of another id than the loader's is not the loader's
    other_found : (id : ℕ) → (id == LOADER) ≡ false → (o : Option Thread)
        → thread_of s.live id ≡ o → IfSome o (λ t. (t.id == LOADER) ≡ false)
    other_found id other None is = tt
    other_found id other (Some t) is =
        subst (λ n. (n == LOADER) ≡ false) (sym (thread_of_id s.live id t is)) other

    starts_by : (argument : ℕ) (o : Option Thread) → IfSome o Has → Of (starts_it s argument o).1
    starts_by argument None is = all
    starts_by argument (Some t) is =
        either (is_dormant t.state) _ _
        (each_with _ (h.one.starts t _ is))
        all

    begins_by : (registers : Cpu) (o : Option Thread) → IfSome o Has
        → Of (begins_it s registers o)
    begins_by registers None is = all
    begins_by registers (Some t) is =
        cond_both (is_dormant t.state) (ready_last s t registers) s Of
        (λ dormant. each_with _ (h.one.in_state t _ is)) (λ other. all)

    ends_by : (o : Option Thread) → IfSome o Has → Of (ends_it s o)
    ends_by None is = all
    ends_by (Some t) is = each_with _ (h.one.in_state t _ is)

    rotates_first : (o : Option ℕ) → Of (rotates_ready s o)
    rotates_first None = all
    rotates_first (Some id) = all

    rotates_by : (priority : ℕ) (registers : Cpu) (o : Option Thread) → IfSome o Has
        → Of (rotates_it s priority registers o)
    rotates_by priority registers None is = rotates_first (first_ready s priority)
    rotates_by priority registers (Some t) is =
        cond_both (t.priority == priority) (ready_last (leaves s t Running) t registers)
        (rotates_ready s (first_ready s priority)) Of
        (λ same. each_with _ (h.one.in_state t _ is))
        (λ other. rotates_first (first_ready s priority))

    blocks_by : (wait : Wait) (registers : Cpu) (o : Option Thread) → IfSome o Has
        → Of (blocks_it s wait registers o)
    blocks_by wait registers None is = all
    blocks_by wait registers (Some t) is =
        each_with _ (h.one.in_state t _ is)

    wakes_by : (answer : ℕ) (t : Thread) → Has t → (state : State)
        → Of (wakes_in s answer t state)
    wakes_by answer t is Dormant = all
    wakes_by answer t is Running = all
    wakes_by answer t is (Ready own) = all
    wakes_by answer t is (Waiting wait own) =
        each_with _ (h.one.in_state t _ is)
    wakes_by answer t is (Suspended own) = all
    wakes_by answer t is (WaitingSuspended wait own) =
        each_with _ (h.one.in_state t _ is)

    wakes_found : (answer : ℕ) (o : Option Thread) → IfSome o Has → Of (wakes_it s answer o)
    wakes_found answer None is = all
    wakes_found answer (Some t) is = wakes_by answer t is t.state

    resumes_by : (t : Thread) → Has t → (state : State) → Of (resumes_in s t state).1
    resumes_by t is Dormant = all
    resumes_by t is Running = all
    resumes_by t is (Ready own) = all
    resumes_by t is (Waiting wait own) = all
    resumes_by t is (Suspended own) = each_with _ (h.one.in_state t _ is)
    resumes_by t is (WaitingSuspended wait own) =
        each_with _ (h.one.in_state t _ is)

    resumes_found : (o : Option Thread) → IfSome o Has → Of (resumes_it s o).1
    resumes_found None is = all
    resumes_found (Some t) is = resumes_by t is t.state

    wakes_up_so : (t : Thread) → Has t → Of (wakes_up_by s t)
    wakes_up_so t is =
        cond_both (sleeps (wait_in t.state)) _ _ Of (λ asleep. wakes_by 0 t is t.state)
        (λ awake. each_with _ (h.one.wakes_more t is))

    wakes_up_found : (o : Option Thread) → IfSome o Has → Of (wakes_up_it s o).1
    wakes_up_found None is = all
    wakes_up_found (Some t) is = either (is_dormant t.state) _ _ all (wakes_up_so t is)

    cancels_found : (o : Option Thread) → IfSome o Has → Of (cancels_it s o).1
    cancels_found None is = all
    cancels_found (Some t) is =
        either (is_dormant t.state) _ _ all
        (each_with _ (h.one.wakes_less t 0 (omega arith) is))

    takes_found : (o : Option Thread) → IfSome o Has → Of (takes_wakeup_it s o).1
    takes_found None is = all
    takes_found (Some t) is =
        either (nat_lt 0 t.wakeups) _ _
        (each_with _ (h.one.wakes_less t (t.wakeups - 1) (omega arith) is)) all

  -- a thread leaves where it is and changes
  each_left : (s : ThreadTable) → Of s → (t : Thread) (state : State) (u : Thread) → Has u
      → Of (with_thread (leaves s t state) u)
  each_left s all t state u is = each_with (leaves s t state) (each_leaving s all t state) u is

  module _ (s : ThreadTable) (all : Of s) where
    terminates_by : (o : Option Thread) → IfSome o Has → Of (terminates_it s o).1
    terminates_by None is = all
    terminates_by (Some t) is =
        either s all (is_dormant t.state) _ _ all
        (each_left s all t t.state _ (h.one.in_state t _ is))

    changes_by : (priority : ℕ) → IsPriority priority → (o : Option Thread) → IfSome o Has
        → Of (changes_it s priority o).1
    changes_by priority may None is = all
    changes_by priority may (Some t) is =
        either s all (is_dormant t.state) _ _ all
        (each_with s all _ (h.one.changes t priority may is))

    suspends_by : (registers : Cpu) (o : Option Thread) → IfSome o Has
        → Of (suspends_it s registers o).1
    suspends_by registers None is = all
    suspends_by registers (Some t) is =
        either s all (is_dormant t.state) _ _ all
        (each_left s all t t.state _ (h.one.in_state t _ is))

  module _ (registers : Cpu) (d : Dispatch) where
    runs_so : (s : ThreadTable) → Of s → (t : Thread) → Has t → dispatches_it s registers t ≡ d
        → Of d.threads
    runs_so s all t is did =
        subst (λ (d : Dispatch). Of d.threads) did
        (each_with s all (record t { state = Running }) (h.one.in_state t Running is))

    dispatches_found : (s : ThreadTable) → Of s → (running best : Option Thread)
        → IfSome running Has → IfSome best Has
        → dispatches_by s registers running best ≡ Some d → Of d.threads
    dispatches_found s all None None runs is did = cc
    dispatches_found s all (Some r) None runs is did = cc
    dispatches_found s all None (Some t) runs is did = runs_so s all t is (same_Some _ d did)
    dispatches_found s all (Some r) (Some t) runs is did =
        runs_so (ready_first s r registers)
        (each_with s all (record r { state = Ready registers }) (h.one.in_state r _ runs)) t is
        (cond_some (nat_lt t.priority r.priority) _ d did).1

  -- each operation leaves threads of which it holds
  pub record HaveStill (s : ThreadTable) : Type 0 where
    pub creates : (param : Param) (stack gp : ℕ)
        → (has_room s ≡ true → Have (s.live ++ dormant_thread s.next param stack gp ∷ []))
        → Of (creates s param stack gp).1
    pub deletes : (id : ℕ) → (id == LOADER) ≡ false → Of (deletes s id).1
    pub starts : (id argument : ℕ) → Of (starts s id argument).1
    pub begins : (registers : Cpu) → Of (begins s registers)
    pub ends_running : Of (ends_running s)
    pub terminates : (id : ℕ) → Of (terminates s id).1
    pub changes : (id priority : ℕ) → IsPriority priority → Of (changes s id priority).1
    pub rotates : (priority : ℕ) (registers : Cpu) → Of (rotates s priority registers)
    pub blocks : (wait : Wait) (registers : Cpu) → Of (blocks s wait registers)
    pub wakes : (id answer : ℕ) → Of (wakes s id answer)
    pub suspends : (id : ℕ) (registers : Cpu) → Of (suspends s id registers).1
    pub resumes : (id : ℕ) → Of (resumes s id).1
    pub wakes_up : (id : ℕ) → Of (wakes_up s id).1
    pub cancels : (id : ℕ) → Of (cancels s id).1
    pub takes_wakeup : Of (takes_wakeup s).1
    pub dispatches : (registers : Cpu) (d : Dispatch) → dispatches s registers ≡ Some d
        → Of d.threads

  pub still_have : (s : ThreadTable) → Of s → HaveStill s
  still_have s all = record {
    creates = λ param stack gp may.
        cond_both (has_room s) _ _ (λ (r : Result ℕ Code × ThreadTable). Of r.1) may
        (λ full. all);
    deletes = λ id other. deletes_by s all _ (other_found s all id other _ refl);
    starts = λ id argument. starts_by s all argument _ (of_id s all (Some id));
    begins = λ registers. begins_by s all registers _ (of_id s all (Some LOADER));
    ends_running = ends_by s all _ (of_id s all s.running);
    terminates = λ id. terminates_by s all _ (of_id s all (Some id));
    changes = λ id priority may. changes_by s all priority may _ (of_id s all (Some id));
    rotates = λ priority registers. rotates_by s all priority registers _ (of_id s all s.running);
    blocks = λ wait registers. blocks_by s all wait registers _ (of_id s all s.running);
    wakes = λ id answer. wakes_found s all answer _ (of_id s all (Some id));
    suspends = λ id registers. suspends_by s all registers _ (of_id s all (Some id));
    resumes = λ id. resumes_found s all _ (of_id s all (Some id));
    wakes_up = λ id. wakes_up_found s all _ (of_id s all (Some id));
    cancels = λ id. cancels_found s all _ (of_id s all (Some id));
    takes_wakeup = takes_found s all _ (of_id s all s.running);
    dispatches = λ registers d did.
        dispatches_found registers d s all (running_thread s) (best_ready s)
        (of_id s all s.running) (of_id s all _) did;
  }
