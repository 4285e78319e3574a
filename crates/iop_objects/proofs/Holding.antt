-- Tables that can be put back, of each object of which, and of its waiters, something holds.
use Rattle.std.proofs.Common.{◌≡◌, ℕ, ◌<◌, Bool, true, Some, List, [], ◌∷◌, ◌++◌}
use Rattle.iop_queues.specs.declared.queued.Queued.{Queued}
use Rattle.iop_objects.specs.Objects.{Objects, no_objects, state_of, waiters_of, waiting, creates, deletes, with_state, with_waiters, waits, takes_next, takes_where, drops, requeues}
use Rattle.iop_objects.specs.Restoring.{may_follow, may_be_next, with_last, with_next, IsRestorable, StayRestorable}
use Rattle.iop_objects.specs.declared.objects.TheConstants.{MOST_WAITERS}
use Rattle.iop_objects.specs.declared.waiter.Waiter.{Waiter}
use Rattle.iop_objects.proofs.EachLeft.{each_of_none, each_left, each_takes_next, each_takes_where, each_drops, each_requeues}
use Rattle.iop_objects.proofs.EachObject.{HoldsOfEach, each_creates, each_deletes, each_with_last, each_with_state, each_with_waiters}
use Rattle.iop_objects.proofs.OtherWaiters.{AreLeft}
use Rattle.iop_objects.proofs.StayRestorable.{stay_restorable, left_stay}

module _ {A W : Type 0} (Q : A → List (Queued (Waiter W)) → Type 0) where
  pub record Holds (s : Objects A W) : Type 0 where
    pub objects : IsRestorable s
    pub each : HoldsOfEach Q s

  pub of_none : Holds no_objects
  of_none = record { objects = stay_restorable.opening; each = each_of_none Q }

  -- it does not mind that fewer wait
  module _ (fewer : (x : A) (old new : List (Queued (Waiter W))) → AreLeft old new → Q x old
      → Q x new) (s : Objects A W) (h : Holds s) where
    abbrev stay : StayRestorable s
    stay = stay_restorable.calls s h.objects

    pub of_creates : (x : A) → Q x [] → Holds (creates s x).1
    of_creates x first =
        record { objects = stay.creates x; each = each_creates Q s h.each x first }

    pub of_deletes : (id : ℕ) → Holds (deletes s id)
    of_deletes id = record { objects = stay.deletes id; each = each_deletes Q s h.each id }

    pub of_state : (id : ℕ) (x : A) → Q x (waiters_of s id) → Holds (with_state s id x)
    of_state id x now =
        record { objects = stay.with_state id x; each = each_with_state Q s h.each id x now }

    pub of_waits : (id : ℕ) (w : Queued (Waiter W)) → waiting s < MOST_WAITERS
        → ((x : A) → state_of s id ≡ Some x → Q x (waiters_of s id)
        → Q x (waiters_of s id ++ w ∷ []))
        → Holds (waits s id w)
    of_waits id w room one = record {
      objects = stay.waits room id w;
      each = each_with_waiters Q s h.each id (waiters_of s id ++ w ∷ []) one;
    }

    pub of_left : (id : ℕ) (new : List (Queued (Waiter W))) → AreLeft (waiters_of s id) new
        → Holds (with_waiters s id new)
    of_left id new left = record {
      objects = left_stay s h.objects id new left;
      each = each_left Q fewer s h.each id new left;
    }

    pub of_takes_next : (id : ℕ) (b : Bool) → Holds (takes_next s id b).1
    of_takes_next id b =
        record { objects = stay.takes_next id b; each = each_takes_next Q fewer s h.each id b }

    pub of_takes_where : (id : ℕ) (p : Waiter W → Bool) → Holds (takes_where s id p).1
    of_takes_where id p =
        record { objects = stay.takes_where id p; each = each_takes_where Q fewer s h.each id p }

    pub of_drops : (id thread : ℕ) → Holds (drops s id thread)
    of_drops id thread =
        record { objects = stay.drops id thread; each = each_drops Q fewer s h.each id thread }

    pub of_requeues : (id : ℕ) (b : Bool) (thread priority : ℕ)
        → Holds (requeues s id b thread priority)
    of_requeues id b thread priority = record {
      objects = stay.requeues id b thread priority;
      each = each_requeues Q fewer s h.each id b thread priority;
    }

    -- what is put back
    pub of_puts : (id : ℕ) (x : A) → may_follow s id ≡ true → Q x [] → Holds (with_last s id x)
    of_puts id x may first =
        record { objects = stay.with_last id x may; each = each_with_last Q s h.each id x first }

    pub of_next : (id : ℕ) → may_be_next s id ≡ true → Holds (with_next s id)
    of_next id may = record { objects = stay.with_next id may; each = h.each }
