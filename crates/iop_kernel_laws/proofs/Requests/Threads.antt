-- What the services of thbase do that make nothing and do not wait.
use Rattle.std.proofs.Common.{◌≡◌, ◌&&◌, not, ℕ, Bool, true, false, Option, if◌then◌else◌, refl}
use Rattle.iop_thread.specs.ThreadTable.{has_priority, running_thread}
use Rattle.iop_kernel.specs.Priorities.{after_leaving}
use Rattle.iop_kernel.specs.System.{System, Core, Left, may_switch, caller}
use Rattle.iop_kernel.specs.Thbase.{serves_thbase}
use Rattle.iop_kernel_laws.specs.ThreadRequests.{old, StartsAndEnds, Orders, WakesAndSuspends, ThreadRequestsAreServed}
use Rattle.iop_kernel.specs.declared.after.After.TheVariants.{Resume}

-- what a rotation leaves where it is not in vain
rotated : (has may : Bool) (now left : Core) (by : Option ℕ) → (has && not may) ≡ false
    → let done : Left Core = if not has then record { state = left; after = Resume }
    else if may then record { state = left; after = after_leaving now by }
    else record { state = now; after = Resume } in
    done.state ≡ left
rotated false may now left by some = refl
rotated true true now left by some = refl
rotated true false now left by some = cc

module _ (s : System) where
  starts_and_ends : StartsAndEnds s
  unfolding serves_thbase
  starts_and_ends = record {
    start = λ other. rw other refl;
    delete = λ stack left other done. rw (other, done) refl;
    delete_none = λ code left other done. rw (other, done) refl;
    refused = λ loader. (rw loader refl, rw loader refl);
    exit = λ id calls other. rw (calls, other) refl;
    exit_delete = λ id stack left calls other done. rw (calls, other, done) refl;
    exit_module = λ calls. (rw calls refl, rw calls refl);
    terminate = λ wait left other done. rw (other, done) refl;
    terminate_none = λ code left other done. rw (other, done) refl;
    terminate_refused = λ self. rw self refl;
  }

  orders : Orders s
  unfolding serves_thbase
  orders = record {
    change = λ id priority wait left is word done. rw (word, is, done) refl;
    change_none = λ id priority code left is word done. rw (word, is, done) refl;
    change_refused = λ word. rw word refl;
    rotate = λ priority word may. rw word (rotated (has_priority priority (running_thread (old s)))
        (may_switch s.core.kernel) _ _ (caller s.core) may);
    disable = λ on. rw on refl;
    enable = λ on. rw on refl;
    dispatch_refused = λ off. (rw off refl, rw off refl);
  }

  wakes_and_suspends : WakesAndSuspends s
  unfolding serves_thbase
  wakes_and_suspends = record {
    wakeup = λ other. rw other refl;
    resume = λ other. rw other refl;
    suspend = λ other may. rw (other, may) refl;
    refused = λ self. (rw self refl, rw self refl, rw self refl, rw self refl);
    cancel_wakeup = λ id is. rw is refl;
  }

pub thread_requests_are_served : ThreadRequestsAreServed
unfolding serves_thbase
thread_requests_are_served = record {
  begin = starts_and_ends;
  order = orders;
  wake = wakes_and_suspends;
  id = λ s. refl;
  alarm = λ s. refl;
}
