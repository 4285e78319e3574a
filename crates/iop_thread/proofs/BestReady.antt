-- The best of the ready threads, and the priorities that a change of a thread keeps.
use Rattle.std.proofs.Common.{◌≡◌, ℕ, ◌<◌, ◌≤◌, ◌==◌, nat_lt, Bool, true, false, if◌then◌else◌, option_map, option_and_then, unwrap_or, Option, Some, None, IfSome, MatchOption, List, [], ◌∷◌, All, refl, ap, sym, ◌∙◌, arith, subst}
use Rattle.std.proofs.lemmas.Bool.{cond_both}
use Rattle.std.proofs.lemmas.List.Elements.{All-append, All-cons, All-head, All-tail, All-weaker}
use Rattle.iop_base.specs.Choosing.{better, best}
use Rattle.iop_base.specs.Laws.{IsFirstOfLeast}
use Rattle.iop_base.proofs.ChoosingLemmas.{best_is_first}
use Rattle.iop_base.specs.Numbers.{one_if}
use Rattle.iop_thread.specs.declared.thread.Thread.{Thread}
use Rattle.iop_thread.specs.States.{is_ready}
use Rattle.iop_thread.specs.ThreadTable.{ThreadTable, thread_of, priority_of, best_ready}
use Rattle.iop_thread.specs.Placing.{IsPlaced, is_in_state}
use Rattle.iop_thread.specs.Laws.{IsBest}
use Rattle.iop_thread.proofs.LiveThreads.{changed, thread_of_changed, thread_of_id}
use Rattle.iop_thread.proofs.Moving.{found_there}
use Rattle.iop_thread.proofs.ReadyIds.{times_best}

-- no thread of the ids is better than this priority
abbrev pub AreNoBetter : ℕ → List Thread → List ℕ → Type 0
AreNoBetter priority live ids = All (λ id. priority ≤ priority_of live id) ids

module _ (live : List Thread) (t u : Thread) (found : thread_of live u.id ≡ Some t)
    (same : t.priority ≡ u.priority) where
  -- the priority after a change, by whether the id is that of the changed thread
  priority_by : (o : Option Thread) (b : Bool) → (b ≡ true → o ≡ Some t)
      → unwrap_or (option_map (λ t. t.priority) (if b then option_map (λ v. u) o else o)) 0
      ≡ unwrap_or (option_map (λ t. t.priority) o) 0
  priority_by o true here = rw (here refl) (sym same)
  priority_by o false here = refl

  -- a change that keeps the priority of the thread keeps all
  pub priority_of_changed : (id : ℕ) → priority_of (changed u live) id ≡ priority_of live id
  priority_of_changed id =
      ap (λ o. unwrap_or (option_map (λ t. t.priority) o) 0) (thread_of_changed live u id)
      ∙ priority_by (thread_of live id) (id == u.id) (found_there live t u id found)

  -- so those that are no better stay so
  pub no_better_changed : (priority : ℕ) (ids : List ℕ) → AreNoBetter priority live ids
      → AreNoBetter priority (changed u live) ids
  no_better_changed priority ids least =
      All-weaker (λ id. priority ≤ priority_of live id)
      (λ id. priority ≤ priority_of (changed u live) id)
      (λ id le. omega (arith, le, priority_of_changed id)) ids least

module _ (number : ℕ → ℕ) (P : ℕ → Type 0) where
  -- what holds of both holds of the better one
  better_has : (one : ℕ) (o : Option ℕ) → P one → IfSome o P → P (better number one o)
  better_has one None first later = first
  better_has one (Some other) first later =
      cond_both (nat_lt (number other) (number one)) other one P (λ less. later) (λ not. first)

  -- what holds of all holds of the best
  pub IfSome-best : (ids : List ℕ) → All P ids → IfSome (best number ids) P
  IfSome-best [] all = tt
  IfSome-best (one ∷ ids) all =
      better_has one (best number ids) (All-head P one ids all)
      (IfSome-best ids (All-tail P one ids all))

module _ (number : ℕ → ℕ) (ids : List ℕ) where
  -- what best tells of its answer
  best_says : (o : Option ℕ) → best number ids ≡ o
      → MatchOption o (ids ≡ []) (IsFirstOfLeast number ids)
  best_says o is =
      subst (λ o. MatchOption o (ids ≡ []) (IsFirstOfLeast number ids)) is
      (best_is_first number ids)

module _ (s : ThreadTable) where
  -- the best id splits the ready list, by the id
  is_best_at : (o : Option ℕ) (t : Thread) → best (priority_of s.live) s.ready ≡ o
      → option_and_then (thread_of s.live) o ≡ Some t → IsBest s t
  is_best_at None t is found = cc
  is_best_at (Some id) t is found =
      let same = thread_of_id s.live id t found in
      let own : thread_of s.live t.id ≡ Some t = ap (thread_of s.live) same ∙ found in
      let number : priority_of s.live id ≡ t.priority = rw found refl in
      let least = best_says (priority_of s.live) s.ready (Some id) is in
      record {
        before = least.before;
        after = least.after;
        found = own;
        ready = rw same least.xs_are;
        first = subst (λ n. All (λ other. n < priority_of s.live other) least.before) number
            least.least_before;
        least = subst (λ n. AreNoBetter n s.live least.after) number least.least_after;
      }

  -- the ready thread that is dispatched next is the best
  pub is_best : (t : Thread) → best_ready s ≡ Some t → IsBest s t
  is_best t found = is_best_at (best (priority_of s.live) s.ready) t refl found

  -- no ready thread is better than the best
  pub best_is_least : (t : Thread) → IsBest s t → AreNoBetter t.priority s.live s.ready
  best_is_least t h =
      let over : ℕ → Type 0 = λ id. t.priority ≤ priority_of s.live id in
      let own : t.priority ≤ priority_of s.live t.id = rw h.found (omega arith) in
      let before = All-weaker (λ id. t.priority < priority_of s.live id) over
      (λ id less. omega (arith, less)) h.before h.first in
      subst (All over) (sym h.ready)
      (All-append over h.before (t.id ∷ h.after) before (All-cons over t.id h.after own h.least))

  -- a best id finds a thread, so without one none is ready
  none_ready_at : IsPlaced s → (o : Option ℕ) → best (priority_of s.live) s.ready ≡ o
      → option_and_then (thread_of s.live) o ≡ None → s.ready ≡ []
  none_ready_at placed None is none =
      best_says (priority_of s.live) s.ready None is
  none_ready_at placed (Some id) is none =
      let there = times_best (priority_of s.live) s.ready id is in
      let idle : is_in_state is_ready s.live id ≡ false = rw none refl in
      absurd (omega (arith, there, placed.ready id, ap one_if idle))

  -- where no thread is best none is ready
  pub none_ready : IsPlaced s → best_ready s ≡ None → s.ready ≡ []
  none_ready placed none = none_ready_at placed (best (priority_of s.live) s.ready) refl none
