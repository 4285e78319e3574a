-- After a dispatch no other is to be made, whatever the threads are; and where none is to be made,
-- the registers of the running one do not matter.
use Rattle.std.proofs.Common.{◌≡◌, ℕ, ◌<◌, ◌≤◌, ◌==◌, nat_lt, ◌∷◌, Bool, true, false, if◌then◌else◌, option_and_then, Option, Some, None, refl, ap, sym, ◌∙◌, arith, subst, not, IfSome}
use Rattle.std.proofs.lemmas.Bool.{ltb-true, ne_eqb, le-ltb}
use Rattle.std.proofs.lemmas.Bool.Decides.{nat_tests}
use Rattle.std.proofs.lemmas.List.Elements.{All-cons, All-filter}
use Rattle.std.proofs.lemmas.Option.{cond_some, same_Some}
use Rattle.iop_exec.specs.declared.cpu.Cpu.{Cpu}
use Rattle.iop_thread.specs.declared.state.State.TheVariants.{Ready, Running}
use Rattle.iop_thread.specs.declared.thread.Thread.{Thread}
use Rattle.iop_thread.specs.ThreadTable.{ThreadTable, thread_of, priority_of, ready_first, runs, running_thread, best_ready, without}
use Rattle.iop_thread.specs.Operations.{Dispatch, dispatches_by, dispatches}
use Rattle.iop_thread.specs.Laws.{IsBest}
use Rattle.iop_thread.proofs.BestReady.{AreNoBetter, no_better_changed, is_best, best_is_least, IfSome-best}
use Rattle.iop_thread.proofs.FindingThreads.{finds_by_id}
use Rattle.iop_thread.proofs.LiveThreads.{thread_of_changed}

-- the thread of an id that is no better is no better
no_better_thread : (s : ThreadTable) (priority : ℕ) (o : Option ℕ)
    → IfSome o (λ id. priority ≤ priority_of s.live id)
    → IfSome (option_and_then (thread_of s.live) o) (λ t. priority ≤ t.priority)
no_better_thread s priority None le = tt
no_better_thread s priority (Some id) le = no_better_found (thread_of s.live id) refl
  where
    no_better_found : (o : Option Thread) → thread_of s.live id ≡ o
        → IfSome o (λ t. priority ≤ t.priority)
    no_better_found None found = tt
    no_better_found (Some t) found =
        let number : priority_of s.live id ≡ t.priority = rw found refl in
        omega (arith, le, number)

-- where no ready thread is better than the one that runs, none is dispatched
none_dispatched : (s : ThreadTable) (registers : Cpu) (r : Thread) → (best : Option Thread)
    → IfSome best (λ t. r.priority ≤ t.priority) → dispatches_by s registers (Some r) best ≡ None
none_dispatched s registers r None le = refl
none_dispatched s registers r (Some t) le = rw (le-ltb t.priority r.priority le) refl

module _ (s : ThreadTable) (t : Thread) (found : thread_of s.live t.id ≡ Some t) where
  -- the thread that goes to the processor runs
  runs_now : running_thread (runs s t) ≡ Some (record t { state = Running })
  runs_now =
      let changed = thread_of_changed s.live (record t { state = Running }) t.id in
      grind (arith, nat_tests, changed, found)

  -- and if no ready thread is better, none is dispatched then
  runs_settled : AreNoBetter t.priority s.live s.ready → (registers : Cpu)
      → dispatches (runs s t) registers ≡ None
  runs_settled least registers =
      let now = record t { state = Running } in
      let left = All-filter (λ other. not (other == t.id))
      (λ id. t.priority ≤ priority_of s.live id) s.ready least in
      let after = no_better_changed s.live t now found refl t.priority
      (without t.id s.ready) left in
      let best = IfSome-best (priority_of (runs s t).live)
      (λ id. t.priority ≤ priority_of (runs s t).live id) (without t.id s.ready) after in
      ap (λ running. dispatches_by (runs s t) registers running (best_ready (runs s t))) runs_now
      ∙ none_dispatched (runs s t) registers now (best_ready (runs s t))
      (no_better_thread (runs s t) t.priority _ best)

-- the running thread, if one, is found by its own id
running_found : (s : ThreadTable) (r : Thread) (o : Option ℕ)
    → option_and_then (thread_of s.live) o ≡ Some r → thread_of s.live r.id ≡ Some r
running_found s r None is = cc
running_found s r (Some id) is = finds_by_id s id r is

-- the best of the ready ones runs, where none ran
pub settles_alone : (s : ThreadTable) (t : Thread) → IsBest s t → (other : Cpu)
    → dispatches (runs s t) other ≡ None
settles_alone s t best = runs_settled s t best.found (best_is_least s t best)

-- a thread gives way to the best of the ready ones, which is better
module _ (s : ThreadTable) (r t : Thread) (registers : Cpu)
    (found : thread_of s.live r.id ≡ Some r) (best : IsBest s t)
    (less : t.priority < r.priority) where
  abbrev from : ThreadTable
  from = ready_first s r registers

  -- they are two
  apart : (t.id == r.id) ≡ false
  apart = ne_eqb t.id r.id (λ same.
      let is = same_Some t r (sym best.found ∙ ap (thread_of s.live) same ∙ found) in
      omega (arith, less, ap (λ u. u.priority) is))

  -- the best one is found as before
  still_found : thread_of from.live t.id ≡ Some t
  still_found =
      let changed = thread_of_changed s.live (record r { state = Ready registers }) t.id in
      grind (arith, changed, apart, best.found)

  -- and no ready one is better
  still_least : AreNoBetter t.priority from.live from.ready
  still_least =
      let own : priority_of s.live r.id ≡ r.priority = rw found refl in
      no_better_changed s.live r (record r { state = Ready registers }) found refl
      t.priority (r.id ∷ s.ready)
      (All-cons (λ id. t.priority ≤ priority_of s.live id) r.id s.ready (omega (arith, own, less))
      (best_is_least s t best))

  -- the other one keeps the registers that are given
  pub keeps_registers : thread_of (runs from t).live r.id
      ≡ Some (record r { state = Ready registers })
  keeps_registers =
      let first = thread_of_changed s.live (record r { state = Ready registers }) r.id in
      let second = thread_of_changed from.live (record t { state = Running }) r.id in
      grind (arith, nat_tests, first, second, apart, found)

  -- it is the first of the ready ones
  pub gives_way : without t.id from.ready ≡ r.id ∷ without t.id s.ready
  gives_way = grind (arith, nat_tests, apart)

  -- and none is dispatched after it
  pub settles_before : (other : Cpu) → dispatches (runs from t) other ≡ None
  settles_before = runs_settled from t still_found still_least

-- by the running thread and the best ready one
settles_by : (s : ThreadTable) (registers other : Cpu) (d : Dispatch) (running best : Option Thread)
    → running_thread s ≡ running → best_ready s ≡ best
    → dispatches_by s registers running best ≡ Some d → dispatches d.threads other ≡ None
settles_by s registers other d None None at is did = cc
settles_by s registers other d (Some r) None at is did = cc
settles_by s registers other d None (Some t) at is did =
    subst (λ (d : Dispatch). dispatches d.threads other ≡ None) (same_Some _ d did)
    (settles_alone s t (is_best s t is) other)
settles_by s registers other d (Some r) (Some t) at is did =
    let by = cond_some (nat_lt t.priority r.priority) _ d did in
    subst (λ (d : Dispatch). dispatches d.threads other ≡ None) by.1
    (settles_before s r t registers (running_found s r s.running at) (is_best s t is)
    (ltb-true t.priority r.priority by.0) other)

-- a dispatch is followed by none
pub settles : (s : ThreadTable) (registers other : Cpu) (d : Dispatch)
    → dispatches s registers ≡ Some d → dispatches d.threads other ≡ None
settles s registers other d did =
    settles_by s registers other d (running_thread s) (best_ready s) refl refl did

-- where none is dispatched, none is whatever the registers of the running one are
still_by : (s : ThreadTable) (registers other : Cpu) (running best : Option Thread)
    → dispatches_by s registers running best ≡ None → dispatches_by s other running best ≡ None
still_by s registers other running None none = refl
still_by s registers other None (Some t) none = absurd (cc none)
still_by s registers other (Some r) (Some t) none = either _ _ (nat_lt t.priority r.priority) none
  where
    either : (d e : Dispatch) (b : Bool) → (if b then Some d else None) ≡ None
        → (if b then Some e else None) ≡ None
    either d e true none = absurd (cc none)
    either d e false none = refl

-- whatever they are, none is dispatched where none was
pub settled_still : (s : ThreadTable) (registers other : Cpu) → dispatches s registers ≡ None
    → dispatches s other ≡ None
settled_still s registers other = still_by s registers other (running_thread s) (best_ready s)
