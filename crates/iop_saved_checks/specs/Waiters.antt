-- Whether those that wait for an object are threads whose states say so: this project's own
-- profile.
use Rattle.std.specs.Prelude.{ℕ, ◌==◌, Bool, ◌&&◌, Option, Some, None, List, []}
use Rattle.std.specs.List.{list_all}
use Rattle.iop_kernel.specs.Placing.{is_for}
use Rattle.iop_objects.specs.declared.waiter.Waiter.{Waiter}
use Rattle.iop_queues.specs.declared.queued.Queued.{Queued}
use Rattle.iop_thread.specs.ThreadTable.{ThreadTable, priority_of}
use Rattle.iop_thread.specs.Waits.{wait_of}
use Rattle.iop_thread.specs.declared.kind.Kind.{Kind}

-- whether one that waits for the object of a kind and an id is a thread that waits for it by its
-- state, and stands there with its priority
abbrev pub is_waiter : {W : Type 0} → ThreadTable → Kind → (id : ℕ) → Queued (Waiter W) → Bool
is_waiter threads kind id x =
    is_for kind id (wait_of threads x.item.thread)
    && x.priority == priority_of threads.live x.item.thread

-- whether all are, and each has a place for what it is told
abbrev pub are_waiters : {W : Type 0} → ThreadTable → Kind → (id : ℕ) → (has_place : W → Bool)
    → List (Queued (Waiter W)) → Bool
are_waiters threads kind id has_place waiters =
    list_all (λ x. is_waiter threads kind id x && has_place x.item.wants) waiters

-- those over whom one walks, if there are any
abbrev pub walked : {X : Type 0} → Option (List X) → List X
walked None = []
walked (Some xs) = xs
