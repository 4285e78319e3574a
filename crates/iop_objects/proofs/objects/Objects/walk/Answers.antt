use Rattle.std.proofs.Common.{◌≡◌, ◌∙◌, None, Some, ap, arith, rules}
use Rattle.iop_objects.proofs.TableQueues.{queue_below}
use Rattle.iop_objects.proofs.Tables.{object_waiters}
use Rattle.iop_objects.proofs.objects.Objects.walk.Goals as goal

pub walk-requires : goal.walk-requires
walk-requires g c = (
  omega arith,
  queue_below _ _ _ _ c.self.invariant.0 c.args.id c.in_ok-queue.queue
      (rw c.deref.ensures.value at c.in_ok-queue.ensures),
)

pub returns-in_err-queue : goal.returns-in_err-queue
returns-in_err-queue g c =
    let none : c.from_residual.result ≡ None = search rules in
    rw (none, ← c.self.view_is)
    (object_waiters _ _ _ _ c.self.invariant.0 c.args.id None
    (rw c.deref.ensures.value at c.in_err-queue.ensures))

pub returns : goal.returns
returns g c =
    rw (← c.self.view_is)
    (ap Some c.walk.ensures
    ∙ object_waiters _ _ _ _ c.self.invariant.0 c.args.id (Some c.in_ok-queue.queue)
    (rw c.deref.ensures.value at c.in_ok-queue.ensures))
