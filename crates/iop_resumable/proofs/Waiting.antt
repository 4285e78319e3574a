-- All that waits for objects waits with the priority of its thread, as it is looked up where a
-- kernel is put back.
use Rattle.std.proofs.Common.{◌≡◌, ℕ, ◌<◌, ◌==◌, Bool, true, false, if◌then◌else◌, Option, Some, None, option_map, List, [], ◌∷◌, find, get_or, All, refl, ap, sym, ◌∙◌, arith}
use Rattle.std.specs.Prelude.{option_and_then, unwrap_or}
use Rattle.std.proofs.lemmas.Bool.{eq-eqb}
use Rattle.std.proofs.lemmas.List.Elements.{All-nil, All-cons, All-weaker}
use Rattle.iop_base.specs.Numbers.{one_if}
use Rattle.iop_kernel.specs.Kinds.{State, Wants, table}
use Rattle.iop_kernel.specs.Placing.{IsPlaced, is_for}
use Rattle.iop_kernel.specs.System.{Kernel}
use Rattle.iop_kernel.specs.Waits.{threads_of}
use Rattle.iop_objects.specs.Objects.{waiters_of}
use Rattle.iop_objects.specs.declared.waiter.Waiter.{Waiter}
use Rattle.iop_objects.proofs.EachLeft.{all_of_each}
use Rattle.iop_queues.specs.declared.queued.Queued.{Queued}
use Rattle.iop_saved_kernel.specs.Laws.{own_priorities, WaitByPriority}
use Rattle.iop_saved_kernel.specs.ThreadLists.{priority_in, priorities_in, priority_among}
use Rattle.iop_saved_objects.specs.Waiters.{HavePriorities}
use Rattle.iop_thread.specs.Placing.{times}
use Rattle.iop_thread.specs.States.{wait_in}
use Rattle.iop_thread.specs.ThreadTable.{thread_of}
use Rattle.iop_thread.specs.declared.kind.Kind.{Kind}
use Rattle.iop_thread.specs.declared.thread.Thread.{Thread}
use Rattle.iop_thread.proofs.ReadyIds.{times_first}

-- the priority of a live thread is looked up
looked_up : (live : List Thread) (id : ℕ) (t : Thread) → thread_of live id ≡ Some t
    → priority_among (priorities_in live) id ≡ Some t.priority
looked_up [] id t found = cc
looked_up (u ∷ live) id t found = by (u.id == id) found (looked_up live id t)
  where
    by : (b : Bool) → (if b then Some u else thread_of live id) ≡ Some t
        → (thread_of live id ≡ Some t → priority_among (priorities_in live) id ≡ Some t.priority)
        → option_map (λ one. one.priority) (if b then Some (priority_in u)
        else find (λ one. one.thread == id) (priorities_in live)) ≡ Some t.priority
    by true is rest = ap (option_map (λ (u : Thread). u.priority)) is
    by false is rest = rest is

-- each that waits is among those that do
module _ {W : Type 0} where
  abbrev IsThere : List (Queued (Waiter W)) → Queued (Waiter W) → Type 0
  IsThere waiters x = 0 < times x.item.thread (threads_of waiters)

  all_there : (waiters : List (Queued (Waiter W))) → All (IsThere waiters) waiters
  all_there [] = All-nil (IsThere [])
  all_there (x ∷ xs) =
      All-cons (IsThere (x ∷ xs)) x xs
      (omega (
        arith,
        times_first x.item.thread x.item.thread (threads_of xs),
        ap one_if (eq-eqb x.item.thread x.item.thread refl),
      ))
      (All-weaker (IsThere xs) (IsThere (x ∷ xs))
      (λ y there. omega (arith, there, times_first y.item.thread x.item.thread (threads_of xs))) xs
      (all_there xs))

module _ (k : Kernel) (placed : IsPlaced k) (kind : Kind) where
  waits_so : (id : ℕ) → HavePriorities (own_priorities k) (waiters_of (table kind k) id)
  waits_so id n d below =
      by (thread_of k.threads.live w.item.thread) refl
    where
      w : Queued (Waiter (Wants kind))
      w = get_or (waiters_of (table kind k) id) n d

      by : (o : Option Thread) → thread_of k.threads.live w.item.thread ≡ o
          → own_priorities k w.item.thread ≡ Some w.priority
      by None none =
          let there = all_there (waiters_of (table kind k) id) n d below in
          let often = (placed.objects kind).waiters id w.item.thread in
          let waits = ap (λ (o : Option Thread).
          one_if (is_for kind id (option_and_then (λ t. wait_in t.state) o))) none in
          absurd (omega (arith, there, often, waits))
      by (Some t) found =
          let its = (placed.objects kind).priorities id n d below in
          looked_up k.threads.live w.item.thread t found
          ∙ ap Some (sym (its
          ∙ ap (λ (o : Option Thread). unwrap_or (option_map (λ t. t.priority) o) 0) found))

  pub wait_by_priority : WaitByPriority k (table kind k)
  wait_by_priority =
      all_of_each (λ (x : State kind) ws. HavePriorities (own_priorities k) ws) (table kind k)
      (placed.objects kind).sound (λ id x known. waits_so id)
