-- Those that wait for objects stand in their queues with the priorities of their threads, where
-- these stay, and where one changes.
use Rattle.std.proofs.Common.{◌≡◌, ℕ, ◌<◌, Bool, true, false, not, if◌then◌else◌, Option, Some, List, [], ◌∷◌, get_or, map, filter, All, refl, ap, sym, ◌∙◌, subst, arith}
use Rattle.std.proofs.lemmas.Bool.{cond_both, eq-eqb, eqb-true, not-true}
use Rattle.std.proofs.lemmas.List.Elements.{All-append, All-cons, All-filter, All-map, All-nil, All-weaker, filter_passes}
use Rattle.iop_base.specs.Numbers.{one_if}
use Rattle.iop_objects.specs.Objects.{waiters_of}
use Rattle.iop_objects.specs.WaiterQueues.{is_thread, without, with_priority, requeued}
use Rattle.iop_queues.specs.declared.queued.Queued.{Queued}
use Rattle.iop_objects.specs.declared.waiter.Waiter.{Waiter}
use Rattle.iop_thread.specs.ThreadTable.{ThreadTable, priority_of}
use Rattle.iop_thread.specs.Waits.{wait_of}
use Rattle.iop_thread.specs.declared.kind.Kind.{Kind}
use Rattle.iop_thread.specs.declared.wait.Wait.{Wait}
use Rattle.iop_thread.specs.declared.wait.Wait.TheVariants.{Object}
use Rattle.iop_thread.proofs.ReadyIds.{times_first}
use Rattle.iop_kernel.specs.Kinds.{Wants, Table}
use Rattle.iop_kernel.specs.Placing.{AreWaited, HasItsPriority, is_for}
use Rattle.iop_kernel.specs.Waits.{threads_of}
use Rattle.iop_kernel.proofs.Bodies.KindTables.{for_object}
use Rattle.iop_kernel.proofs.Placing.Priorities.{KeepFor, IsChanged}
use Rattle.iop_kernel.proofs.Placing.Queues.{times_in}

module _ {W : Type 0} where
  -- the thread of a waiter is among those that wait
  abbrev IsThere : List (Queued (Waiter W)) → Queued (Waiter W) → Type 0
  IsThere waiters x = 0 < times_in x.item.thread waiters

  -- so it is of each that waits
  all_there : (waiters : List (Queued (Waiter W))) → All (IsThere waiters) waiters
  all_there [] = All-nil (IsThere [])
  all_there (x ∷ xs) =
      All-cons (IsThere (x ∷ xs)) x xs
      (omega (
        arith,
        times_first x.item.thread x.item.thread (threads_of xs),
        ap one_if (eq-eqb x.item.thread x.item.thread refl),
      ))
      (All-weaker (IsThere xs) (IsThere (x ∷ xs))
      (λ y there. omega (arith, there, times_first y.item.thread x.item.thread (threads_of xs))) xs
      (all_there xs))

  -- the priority of one thread changes, and in its queue, too
  module _ {old left : ThreadTable} {thread priority : ℕ} {wait : Option Wait}
      (changed : IsChanged old left thread priority wait) where
    -- it has the new one
    own_priority : (x : Queued (Waiter W)) → is_thread thread x ≡ true
        → HasItsPriority left (with_priority priority x)
    own_priority x its =
        sym (ap (priority_of left.live) (eqb-true x.item.thread thread its) ∙ changed.own)

    -- each other one has the one that it had
    other_priority : (x : Queued (Waiter W)) → HasItsPriority old x → is_thread thread x ≡ false
        → HasItsPriority left x
    other_priority x was other = was ∙ sym (changed.others x.item.thread other)

    -- it waits behind all others, or keeps its place
    pub requeued_priorities : (by_priority : Bool) (waiters : List (Queued (Waiter W)))
        → All (HasItsPriority old) waiters
        → All (HasItsPriority left) (requeued by_priority thread priority waiters)
    requeued_priorities true waiters all =
        let other : Queued (Waiter W) → Bool = λ x. not (is_thread thread x) in
        let others = without thread waiters in
        let own = filter (is_thread thread) waiters in
        let were = All-filter other (HasItsPriority old) waiters all in
        let apart = filter_passes other waiters in
        let its = filter_passes (is_thread thread) waiters in
        All-append (HasItsPriority left) others (map (with_priority priority) own)
        (λ k d below. let x = get_or others k d in
        other_priority x (were k d below) (not-true (is_thread thread x) (apart k d below)))
        (All-map (HasItsPriority left) (with_priority priority) own
        (λ k d below. own_priority (get_or own k d) (its k d below)))
    requeued_priorities false waiters all =
        let change : Queued (Waiter W) → Queued (Waiter W) =
        λ x. if is_thread thread x then with_priority priority x else x in
        All-map (HasItsPriority left) change waiters
        (All-weaker (HasItsPriority old) (λ x. HasItsPriority left (change x))
        (λ x was. cond_both (is_thread thread x) (with_priority priority x) x (HasItsPriority left)
        (own_priority x) (other_priority x was)) waiters all)

-- what counts one is true
is_true : (b : Bool) → 0 < one_if b → b ≡ true
is_true true some = refl
is_true false some = absurd (omega (arith, some))

module _ (kind : Kind) (s : Table kind) {old : ThreadTable} (h : AreWaited kind s old)
    (id : ℕ) where
  -- the thread of a waiter waits for this object
  abbrev WaitsForIt : Queued (Waiter (Wants kind)) → Type 0
  WaitsForIt x = wait_of old x.item.thread ≡ Some (Object kind id)

  -- so does that of each waiter
  all_wait : All WaitsForIt (waiters_of s id)
  all_wait =
      let waiters = waiters_of s id in
      All-weaker (IsThere waiters) WaitsForIt
      (λ x there. let wait = wait_of old x.item.thread in
      for_object kind id wait
      (is_true (is_for kind id wait) (subst (λ n. 0 < n) (h.waiters id x.item.thread) there)))
      waiters (all_there waiters)

  -- so where these threads have their priorities, they are queued with them
  pub queued_on : (left : ThreadTable) → KeepFor kind id old left
      → All (HasItsPriority left) (waiters_of s id)
  queued_on left keep k d below =
      h.priorities id k d below
      ∙ sym (keep (get_or (waiters_of s id) k d).item.thread (all_wait k d below))
