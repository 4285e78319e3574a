-- A dispatch takes the best of the ready threads, better than the one that ran. After it no ready
-- thread is better than the one that runs.
use Rattle.std.proofs.Common.{◌≡◌, ℕ, ◌<◌, ◌≤◌, nat_lt, Bool, true, false, if◌then◌else◌, option_map, option_and_then, Option, Some, None, [], ◌∷◌, ◌++◌, All, refl, ap, sym, ◌∙◌, arith, subst}
use Rattle.std.proofs.lemmas.Bool.{ltb-true, ltb-false}
use Rattle.std.proofs.lemmas.List.Elements.{All-nil, All-weaker}
use Rattle.std.proofs.lemmas.Option.{cond_some, same_Some}
use Rattle.iop_base.specs.Numbers.{one_if}
use Rattle.iop_exec.specs.declared.cpu.Cpu.{Cpu}
use Rattle.iop_thread.specs.declared.state.State.TheVariants.{Ready}
use Rattle.iop_thread.specs.declared.thread.Thread.{Thread}
use Rattle.iop_thread.specs.States.{is_ready}
use Rattle.iop_thread.specs.ThreadTable.{ThreadTable, thread_of, priority_of, ready_first, runs, running_thread, best_ready, without}
use Rattle.iop_thread.specs.Operations.{Dispatch, ready_registers, dispatches_it, dispatches_by, dispatches}
use Rattle.iop_thread.specs.Placing.{IsPlaced, times, is_in_state}
use Rattle.iop_thread.specs.Laws.{IsBest, IsDispatched, IsSettled, DispatchIsStrict}
use Rattle.iop_thread.proofs.BestReady.{is_best, best_is_least, none_ready}
use Rattle.iop_thread.proofs.FindingThreads.{best_is_ready, none_runs, running_thread_runs}
use Rattle.iop_thread.proofs.DispatchSettling.{settles_alone, settles_before, keeps_registers, gives_way}
use Rattle.iop_thread.proofs.LiveThreads.{thread_of_id}
use Rattle.iop_thread.proofs.ReadyIds.{without_once}

-- what a dispatch of the best leaves of the one that ran, and of the others
record IsLeft (s : ThreadTable) (given : Cpu) {t : Thread} (best : IsBest s t)
    (after : ThreadTable) : Type 0 where
  gave_way : (r : ℕ) → s.running ≡ Some r → after.ready ≡ r ∷ best.before ++ best.after
  keeps : (r : ℕ) → s.running ≡ Some r
      → option_map (λ t. t.state) (thread_of after.live r) ≡ Some (Ready given)
  others : s.running ≡ None → after.ready ≡ best.before ++ best.after
  settled : (other : Cpu) → dispatches after other ≡ None

module _ (s : ThreadTable) (placed : IsPlaced s) where
  -- the id that runs has the priority of the running thread
  running_priority : (r : ℕ) (u : Thread) → s.running ≡ Some r → running_thread s ≡ Some u
      → priority_of s.live r ≡ u.priority
  running_priority r u is at =
      let found : thread_of s.live r ≡ Some u =
      ap (option_and_then (thread_of s.live)) (sym is) ∙ at in
      rw found refl

  -- and is its id
  running_id : (r : ℕ) (u : Thread) → s.running ≡ Some r → running_thread s ≡ Some u → u.id ≡ r
  running_id r u is at =
      thread_of_id s.live r u (ap (option_and_then (thread_of s.live)) (sym is) ∙ at)

  -- the best one is ready once, so the others are left without it
  without_best : (t : Thread) (h : IsBest s t) → without t.id s.ready ≡ h.before ++ h.after
  without_best t h =
      let once = most_one (is_in_state is_ready s.live t.id) in
      let there = ap (times t.id) (sym h.ready) ∙ placed.ready t.id in
      ap (without t.id) h.ready ∙ without_once t.id h.before h.after (omega (arith, once, there))
    where
      most_one : (b : Bool) → one_if b ≤ 1
      most_one true = omega arith
      most_one false = omega arith

  -- a ready thread is the best, and is dispatched with what this leaves
  dispatched_from : (from : ThreadTable) (registers : Cpu) (t : Thread)
      (is : best_ready s ≡ Some t)
      → ((r : ℕ) → s.running ≡ Some r → t.priority < priority_of s.live r)
      → IsLeft s registers (is_best s t is) (runs from t)
      → IsDispatched s registers (dispatches_it from registers t)
  dispatched_from from registers t is better left =
      let ready = best_is_ready s placed t is in
      record {
        thread = t;
        best = is_best s t is;
        id = refl;
        kept = ready.is ∙ ap (λ state. Ready (ready_registers state registers)) (sym ready.is);
        runs = refl;
        better = better;
        gave_way = left.gave_way;
        keeps = left.keeps;
        others = left.others;
        settled = left.settled;
      }

  -- where none runs, the best is dispatched
  dispatched_alone : (registers : Cpu) (t : Thread) → running_thread s ≡ None
      → best_ready s ≡ Some t → IsDispatched s registers (dispatches_it s registers t)
  dispatched_alone registers t none is =
      let best = is_best s t is in
      let still = none_runs s placed none in
      dispatched_from s registers t is (λ r runs. cc (runs, still)) (record {
        gave_way = λ r runs. absurd (cc (runs, still));
        keeps = λ r runs. absurd (cc (runs, still));
        others = λ idle. without_best t best;
        settled = settles_alone s t best;
      })

  -- where one runs, it gives way to a better one
  dispatched_before : (registers : Cpu) (r t : Thread) → running_thread s ≡ Some r
      → best_ready s ≡ Some t → t.priority < r.priority
      → IsDispatched s registers (dispatches_it (ready_first s r registers) registers t)
  dispatched_before registers r t at is less =
      let found = (running_thread_runs s placed r at).found in
      let best = is_best s t is in
      let after = runs (ready_first s r registers) t in
      dispatched_from (ready_first s r registers) registers t is
      (λ id runs. omega (arith, less, running_priority id r runs at)) (record {
        gave_way = λ id runs.
            gives_way s r t registers found best less
            ∙ ap (λ one. one ∷ without t.id s.ready) (running_id id r runs at)
            ∙ ap (λ ids. id ∷ ids) (without_best t best);
        keeps = λ id runs.
            ap (λ one. option_map (λ t. t.state) (thread_of after.live one))
            (sym (running_id id r runs at))
            ∙ ap (option_map (λ t. t.state)) (keeps_registers s r t registers found best less);
        others = λ idle. absurd (cc (at, ap (option_and_then (thread_of s.live)) idle));
        settled = settles_before s r t registers found best less;
      })

  -- a dispatch, by the running thread and the best ready one
  dispatched_by : (registers : Cpu) (d : Dispatch) (running best : Option Thread)
      → running_thread s ≡ running → best_ready s ≡ best
      → dispatches_by s registers running best ≡ Some d → IsDispatched s registers d
  dispatched_by registers d None None at is did = cc
  dispatched_by registers d (Some r) None at is did = cc
  dispatched_by registers d None (Some t) at is did =
      subst (IsDispatched s registers) (same_Some _ d did) (dispatched_alone registers t at is)
  dispatched_by registers d (Some r) (Some t) at is did =
      let by = cond_some (nat_lt t.priority r.priority) _ d did in
      subst (IsDispatched s registers) by.1
      (dispatched_before registers r t at is (ltb-true t.priority r.priority by.0))

  -- where one runs and none is ready, they are settled
  settled_alone : (r : Thread) → running_thread s ≡ Some r → s.ready ≡ [] → IsSettled s
  settled_alone r at none = record {
    best = λ id runs. subst (All (λ other. priority_of s.live id ≤ priority_of s.live other))
        (sym none) (All-nil (λ other. priority_of s.live id ≤ priority_of s.live other));
    idle = λ still. none;
  }

  -- where the one that runs is no worse than the best, they are settled
  settled_over : (r t : Thread) → running_thread s ≡ Some r → best_ready s ≡ Some t
      → r.priority ≤ t.priority → IsSettled s
  settled_over r t at is le = record {
    best = λ id runs. All-weaker (λ other. t.priority ≤ priority_of s.live other)
        (λ other. priority_of s.live id ≤ priority_of s.live other)
        (λ other over. omega (arith, le, over, running_priority id r runs at)) s.ready
        (best_is_least s t (is_best s t is));
    idle = λ still. cc (at, ap (option_and_then (thread_of s.live)) still);
  }

  -- none is dispatched, by the running thread and the best ready one
  settled_by : (registers : Cpu) (running best : Option Thread) → running_thread s ≡ running
      → best_ready s ≡ best → dispatches_by s registers running best ≡ None → IsSettled s
  settled_by registers None None at is did = record {
    best = λ r runs. cc (runs, none_runs s placed at);
    idle = λ still. none_ready s placed is;
  }
  settled_by registers None (Some t) at is did = cc
  settled_by registers (Some r) None at is did = settled_alone r at (none_ready s placed is)
  settled_by registers (Some r) (Some t) at is did =
      settled_over r t at is
      (ltb-false t.priority r.priority (not_taken (nat_lt t.priority r.priority) _ did))
    where
      not_taken : (b : Bool) (d : Dispatch) → (if b then Some d else None) ≡ None → b ≡ false
      not_taken true d none = cc
      not_taken false d none = refl

-- a dispatch is of the best of the ready threads, better than the one that ran
pub dispatched_is : (s : ThreadTable) (registers : Cpu) (d : Dispatch) → IsPlaced s
    → dispatches s registers ≡ Some d → IsDispatched s registers d
dispatched_is s registers d placed did =
    dispatched_by s placed registers d (running_thread s) (best_ready s) refl refl did

-- where none is dispatched, no ready thread is better than the one that runs
pub settled_is : (s : ThreadTable) (registers : Cpu) → IsPlaced s
    → dispatches s registers ≡ None → IsSettled s
settled_is s registers placed did =
    settled_by s placed registers (running_thread s) (best_ready s) refl refl did

pub dispatch_is_strict : DispatchIsStrict
dispatch_is_strict = record { dispatched = dispatched_is; settled = settled_is }
