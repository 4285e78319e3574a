-- What a change of those that wait for an object keeps of the objects of its kind.
use Rattle.std.proofs.Common.{◌≡◌, ◌==◌, ℕ, Bool, true, false, None, List, [], refl, ap}
use Rattle.std.specs.List.{Contains}
use Rattle.std.proofs.lemmas.Bool.{eqb-true}
use Rattle.iop_objects.specs.Objects.{Objects, object_of, waiters_in, waiters_of, with_waiters, drops, requeues}
use Rattle.iop_objects.specs.WaiterQueues.{without, requeued}
use Rattle.iop_objects.specs.declared.waiter.Waiter.{Waiter}
use Rattle.iop_objects.proofs.OtherWaiters.{NoOthers, items, among, none_new, none_without, none_requeued}
use Rattle.iop_objects.proofs.Others.{with_waiters_but, waiters_now, waiters_leave_states}
use Rattle.iop_queues.specs.declared.queued.Queued.{Queued}
use Rattle.iop_kernel_laws.specs.CodeLaws.{KeepsObjects}

module _ {A W : Type 0} where
  -- nothing changes
  pub same_objects : (s : Objects A W) → KeepsObjects s s
  same_objects s = record { states = λ id. refl; waiters = λ id w h. h; next = refl }

  module _ (s : Objects A W) (id : ℕ) (new : List (Queued (Waiter W)))
      (none : NoOthers (waiters_of s id) new) where
    -- where there is no such object none waits for it
    dead : object_of s.live id ≡ None → new ≡ []
    dead gone = none_new (waiters_of s id) new none (ap waiters_in gone)

    -- there are no other waiters, of whichever object
    waiters_leave : (other : ℕ) (w : Waiter W) (b : Bool) → (other == id) ≡ b
        → Contains (items (waiters_of (with_waiters s id new) other)) w
        → Contains (items (waiters_of s other)) w
    waiters_leave other w true is =
        rw (eqb-true other id is, waiters_now s id new dead) (among (waiters_of s id) new none w)
    waiters_leave other w false is = rw ((with_waiters_but s id new).others other is) (λ h. h)

    -- the objects are kept
    waiters_change : KeepsObjects s (with_waiters s id new)
    waiters_change = record {
      states = waiters_leave_states id new s;
      waiters = λ other w. waiters_leave other w (other == id) refl;
      next = refl;
    }

  -- a thread waits no more for an object
  pub drops_keep : (s : Objects A W) (id thread : ℕ) → KeepsObjects s (drops s id thread)
  drops_keep s id thread =
      waiters_change s id (without thread (waiters_of s id)) (none_without thread (waiters_of s id))

  -- or has another priority
  pub requeues_keep : (s : Objects A W) (id : ℕ) (by_priority : Bool) (thread priority : ℕ)
      → KeepsObjects s (requeues s id by_priority thread priority)
  requeues_keep s id by_priority thread priority =
      let was = waiters_of s id in
      waiters_change s id (requeued by_priority thread priority was)
      (none_requeued by_priority thread priority was)
