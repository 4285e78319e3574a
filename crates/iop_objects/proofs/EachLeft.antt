-- What is known of each live object and of its waiters stays so where no others wait, and no more.
use Rattle.std.proofs.Common.{◌≡◌, ℕ, Bool, ◌<◌, ◌==◌, true, false, cond, Option, Some, None, List, [], ◌∷◌, All, AllPairs, refl, subst, arith}
use Rattle.std.proofs.lemmas.Bool.{eq-eqb, eqb-true}
use Rattle.std.proofs.lemmas.List.Elements.{All-nil, All-cons, All-head, All-tail}
use Rattle.iop_base.proofs.Searching.{AllPairs-head, AllPairs-tail}
use Rattle.iop_queues.specs.Laws.{IsTaken}
use Rattle.iop_queues.specs.Queue.{Choice}
use Rattle.iop_queues.specs.declared.queued.Queued.{Queued}
use Rattle.iop_queues.proofs.Choosing.{first_where}
use Rattle.iop_objects.specs.Objects.{Object, Objects, AreObjects, no_objects, object_of, waiters_of, with_waiters, takes, takes_next, takes_where, takes_next_where, drops, requeues}
use Rattle.iop_objects.specs.declared.waiter.Waiter.{Waiter}
use Rattle.iop_objects.proofs.Apart.{Rise}
use Rattle.iop_objects.proofs.Chosen.{taken_by, next_taken}
use Rattle.iop_objects.proofs.EachObject.{HoldsOfEach, HoldsOf, each_from_found, found_holds, each_with_waiters}
use Rattle.iop_objects.proofs.Others.{object_of_id}
use Rattle.iop_objects.proofs.OtherWaiters.{AreLeft, left_taken, left_without, left_requeued}

-- what holds of all objects holds of each one that is found, and the other way round
module _ {A W : Type 0} where
  pub all_found : (P : Object A W → Type 0) (live : List (Object A W)) → All P live → (id : ℕ) (o : Object A W)
      → object_of live id ≡ Some o → P o
  all_found P [] all id o found = cc
  all_found P (x ∷ live) all id o found =
      by (x.id == id) (all_found P live (All-tail P x live all) id o) found
    where
      by : (b : Bool) → (object_of live id ≡ Some o → P o)
          → cond b (Some x) (object_of live id) ≡ Some o → P o
      by true rest is = let same : x ≡ o = cc in subst P same (All-head P x live all)
      by false rest is = rest is

  pub found_all : (P : Object A W → Type 0) (live : List (Object A W)) → AllPairs Rise live
      → ((id : ℕ) (o : Object A W) → object_of live id ≡ Some o → P o) → All P live
  found_all P [] ids each = All-nil P
  found_all P (x ∷ live) ids each =
      All-cons P x live (each x.id x (rw (eq-eqb x.id x.id refl) refl))
      (found_all P live (AllPairs-tail Rise x live ids) (λ id o found.
      by id o found (x.id == id) refl))
    where
      by : (id : ℕ) (o : Object A W) → object_of live id ≡ Some o → (b : Bool)
          → (x.id == id) ≡ b → P o
      by id o found false is = each id o (rw is found)
      by id o found true is =
          let order : id < o.id =
          subst (λ n. n < o.id) (eqb-true x.id id is)
          (all_found (λ p. x.id < p.id) live (AllPairs-head Rise x live ids) id o found) in
          let own = object_of_id live id o found in
          absurd (omega (arith, order, own))

module _ {A W : Type 0} (Q : A → List (Queued (Waiter W)) → Type 0) where
  pub each_of_all : (s : Objects A W) → All (HoldsOf Q) s.live → HoldsOfEach Q s
  each_of_all s all = each_from_found Q s (all_found (HoldsOf Q) s.live all)

  pub all_of_each : (s : Objects A W) → AreObjects s → HoldsOfEach Q s → All (HoldsOf Q) s.live
  all_of_each s are each = found_all (HoldsOf Q) s.live are.ids (found_holds Q s each)

  pub each_of_none : HoldsOfEach Q no_objects
  each_of_none id x is = cc

  -- it does not mind that fewer wait
  module _ (fewer : (x : A) (old new : List (Queued (Waiter W))) → AreLeft old new → Q x old
      → Q x new) (s : Objects A W) (h : HoldsOfEach Q s) where
    pub each_left : (id : ℕ) (new : List (Queued (Waiter W))) → AreLeft (waiters_of s id) new
        → HoldsOfEach Q (with_waiters s id new)
    each_left id new left =
        each_with_waiters Q s h id new (λ x known. fewer x (waiters_of s id) new left)

    each_takes : (id : ℕ) (o : Option (Choice (Waiter W)))
        → ((c : Choice (Waiter W)) → o ≡ Some c → IsTaken (waiters_of s id) c)
        → HoldsOfEach Q (takes s id o).1
    each_takes id None taken = h
    each_takes id (Some c) taken = each_left id c.others (left_taken (taken c refl))

    pub each_takes_next : (id : ℕ) (by_priority : Bool)
        → HoldsOfEach Q (takes_next s id by_priority).1
    each_takes_next id by_priority = each_takes id _ (taken_by by_priority (waiters_of s id))

    pub each_takes_where : (id : ℕ) (p : Waiter W → Bool)
        → HoldsOfEach Q (takes_where s id p).1
    each_takes_where id p =
        each_takes id _ (λ c is. (first_where p (waiters_of s id) c is).taken)

    pub each_takes_next_where : (id : ℕ) (by_priority : Bool) (p : Waiter W → Bool)
        → HoldsOfEach Q (takes_next_where s id by_priority p).1
    each_takes_next_where id by_priority p =
        each_takes id _ (next_taken p by_priority (waiters_of s id))

    pub each_drops : (id thread : ℕ) → HoldsOfEach Q (drops s id thread)
    each_drops id thread = each_left id _ (left_without thread (waiters_of s id))

    pub each_requeues : (id : ℕ) (by_priority : Bool) (thread priority : ℕ)
        → HoldsOfEach Q (requeues s id by_priority thread priority)
    each_requeues id by_priority thread priority =
        each_left id _ (left_requeued by_priority thread priority (waiters_of s id))
