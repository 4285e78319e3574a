-- Where no others wait for an object than did.
use Rattle.std.proofs.Common.{◌≡◌, Bool, true, false, if◌then◌else◌, Some, List, [], ◌∷◌, length, map, filter, refl, subst, arith, ◌≤◌}
use Rattle.std.specs.List.{All, Contains}
use Rattle.std.specs.Prelude.{ℕ, not}
use Rattle.std.proofs.lemmas.Bool.{cond_both}
use Rattle.std.proofs.lemmas.List.{length-append, length-map, get_or-map}
use Rattle.std.proofs.lemmas.List.Elements.{All-head, All-append, All-weaker, All-map, All-filter, All-contains}
use Rattle.std.proofs.lemmas.List.Filters.{length-filter_both}
use Rattle.iop_queues.specs.Laws.{IsTaken}
use Rattle.iop_queues.specs.Queue.{Choice, chooses}
use Rattle.iop_queues.specs.declared.queued.Queued.{Queued}
use Rattle.iop_objects.specs.WaiterQueues.{is_thread, without, with_priority, requeued}
use Rattle.iop_objects.specs.declared.waiter.Waiter.{Waiter}
use Rattle.iop_objects.proofs.Chosen.{all_but_taken, all_but_chosen, fewer_others}

module _ {W : Type 0} where
  -- those that wait, without the priorities by which they are queued
  abbrev pub items : List (Queued (Waiter W)) → List (Waiter W)
  items waiters = map (λ x. x.item) waiters

  -- a waiter is one of these, whatever its priority
  abbrev pub IsAmong : List (Queued (Waiter W)) → Queued (Waiter W) → Type 0
  IsAmong old x = Contains (items old) x.item

  -- there are no other waiters
  abbrev pub NoOthers : (old new : List (Queued (Waiter W))) → Type 0
  NoOthers old new = All (IsAmong old) new

  -- each is among all
  themselves : (waiters : List (Queued (Waiter W))) → NoOthers waiters waiters
  themselves waiters k d below =
      let item : Queued (Waiter W) → Waiter W = λ x. x.item in
      (k, omega (arith, below, length-map waiters item), get_or-map item waiters k d _ below)

  -- those that wait without a thread
  pub none_without : (thread : ℕ) (waiters : List (Queued (Waiter W)))
      → NoOthers waiters (without thread waiters)
  none_without thread waiters =
      All-filter (λ x. not (is_thread thread x)) (IsAmong waiters) waiters (themselves waiters)

  -- so where the priority of a thread changes
  pub none_requeued : (by_priority : Bool) (thread priority : ℕ)
      (waiters : List (Queued (Waiter W)))
      → NoOthers waiters (requeued by_priority thread priority waiters)
  none_requeued true thread priority waiters =
      let moved = filter (is_thread thread) waiters in
      All-append (IsAmong waiters) (without thread waiters) (map (with_priority priority) moved)
      (none_without thread waiters)
      (All-map (IsAmong waiters) (with_priority priority) moved
      (All-filter (is_thread thread) (IsAmong waiters) waiters (themselves waiters)))
  none_requeued false thread priority waiters =
      let change : Queued (Waiter W) → Queued (Waiter W) =
      λ x. if is_thread thread x then with_priority priority x else x in
      All-map (IsAmong waiters) change waiters
      (All-weaker (IsAmong waiters) (λ x. IsAmong waiters (change x))
      (λ x there. cond_both (is_thread thread x) (with_priority priority x) x (IsAmong waiters)
      (λ own. there) (λ other. there)) waiters (themselves waiters))

  -- nor where one is taken, or chosen
  pub none_taken_new : {waiters : List (Queued (Waiter W))} {c : Choice (Waiter W)}
      → IsTaken waiters c → NoOthers waiters c.others
  none_taken_new {waiters} taken =
      all_but_taken (IsAmong waiters) taken (themselves waiters)

  pub none_chosen_new : (by_priority : Bool) (waiters : List (Queued (Waiter W)))
      (c : Choice (Waiter W)) → chooses by_priority waiters ≡ Some c → NoOthers waiters c.others
  none_chosen_new by_priority waiters c chosen =
      all_but_chosen (IsAmong waiters) by_priority waiters c chosen (themselves waiters)

  -- those that are left: no others, and no more than there were
  pub record AreLeft (old new : List (Queued (Waiter W))) : Type 0 where
    pub none : NoOthers old new
    pub most : length new ≤ length old

  pub left_taken : {waiters : List (Queued (Waiter W))} {c : Choice (Waiter W)}
      → IsTaken waiters c → AreLeft waiters c.others
  left_taken {waiters} {c} taken = record {
    none = none_taken_new taken;
    most = fewer_others taken;
  }

  pub left_without : (thread : ℕ) (waiters : List (Queued (Waiter W)))
      → AreLeft waiters (without thread waiters)
  left_without thread waiters = record {
    none = none_without thread waiters;
    most = omega (
      arith,
      length-filter_both (is_thread thread) (λ x. not (is_thread thread x))
          (λ x. refl) waiters,
    );
  }

  as_many : (by_priority : Bool) (thread priority : ℕ) (waiters : List (Queued (Waiter W)))
      → length (requeued by_priority thread priority waiters) ≤ length waiters
  as_many true thread priority waiters =
      let own = filter (is_thread thread) waiters in
      omega (
        arith,
        length-append (without thread waiters) (map (with_priority priority) own),
        length-map own (with_priority priority),
        length-filter_both (is_thread thread) (λ x. not (is_thread thread x)) (λ x. refl) waiters,
      )
  as_many false thread priority waiters =
      omega (
        arith,
        length-map waiters
            (λ x. if is_thread thread x then with_priority priority x else x),
      )

  pub left_requeued : (by_priority : Bool) (thread priority : ℕ)
      (waiters : List (Queued (Waiter W)))
      → AreLeft waiters (requeued by_priority thread priority waiters)
  left_requeued by_priority thread priority waiters = record {
    none = none_requeued by_priority thread priority waiters;
    most = as_many by_priority thread priority waiters;
  }

  -- so what is among the new ones is among the old ones
  pub among : (old new : List (Queued (Waiter W))) → NoOthers old new → (w : Waiter W)
      → Contains (items new) w → Contains (items old) w
  among old new none w h =
      All-contains (Contains (items old)) (items new) w
      (All-map (Contains (items old)) (λ (x : Queued (Waiter W)). x.item) new none) h

  -- there is none where there was none
  pub none_new : (old new : List (Queued (Waiter W))) → NoOthers old new → old ≡ [] → new ≡ []
  none_new old [] none empty = refl
  none_new old (x ∷ xs) none empty =
      let there = subst (λ old. Contains (items old) x.item) empty
      (All-head (IsAmong old) x xs none) in
      absurd (omega (arith, there.1))

  -- what holds of each old one holds of each new one, where it is not about priorities
  pub all_others : (Holds : Waiter W → Type 0) (old new : List (Queued (Waiter W)))
      → NoOthers old new → All (λ x. Holds x.item) old → All (λ x. Holds x.item) new
  all_others Holds old new none all =
      All-weaker (IsAmong old) (λ x. Holds x.item)
      (λ x there. All-contains Holds (items old) x.item
      (All-map Holds (λ (x : Queued (Waiter W)). x.item) old all) there) new none
