use Rattle.std.proofs.Common.{◌∙◌, true, false, ap, arith}
use Rattle.iop_objects.specs.Objects.{requeues}
use Rattle.iop_objects.specs.WaiterQueues.{moved_last, in_place}
use Rattle.iop_objects.proofs.TableQueues.{queue_below, objects_in-changed, IsTable-changed, objects_in-unchanged}
use Rattle.iop_objects.proofs.objects.Objects.requeue.Goals as goal

pub move_last-requires : goal.move_last-requires
move_last-requires g c = (
  omega arith,
  queue_below _ _ _ _ c.self.invariant.0 c.args.id c.in-Some.queue
      (rw c.deref.ensures.value at c.in-Some.ensures),
)

pub set_priority-requires : goal.set_priority-requires
set_priority-requires g c = (
  omega arith,
  queue_below _ _ _ _ c.self.invariant.0 c.args.id c.in-Some.queue
      (rw c.deref.ensures.value at c.in-Some.ensures),
)

pub invariant_of-self : goal.invariant_of-self
invariant_of-self g c = (
  rw c.move_last.ensures
      (IsTable-changed _ _ _ _ c.self.invariant.0 c.args.id c.in-Some.queue
      (rw c.deref.ensures.value at c.in-Some.ensures) _),
  c.self.invariant.1,
)

pub invariant_of-self-else-by_priority : goal.invariant_of-self-else-by_priority
invariant_of-self-else-by_priority g c = (
  rw c.set_priority.ensures
      (IsTable-changed _ _ _ _ c.self.invariant.0 c.args.id c.in-Some.queue
      (rw c.deref.ensures.value at c.in-Some.ensures) _),
  c.self.invariant.1,
)

pub returns-then-by_priority : goal.returns-then-by_priority
returns-then-by_priority g c =
    rw (c.move_last.ensures, c.if-by_priority.true)
    (objects_in-changed _ _ _ _ c.self.invariant.0 c.args.id c.in-Some.queue
    (rw c.deref.ensures.value at c.in-Some.ensures) (moved_last c.args.thread c.args.priority)
    ∙ ap (λ s. requeues s c.args.id true c.args.thread c.args.priority) c.self.view_is)

pub returns-else-by_priority : goal.returns-else-by_priority
returns-else-by_priority g c =
    rw (c.set_priority.ensures, c.if-by_priority.false)
    (objects_in-changed _ _ _ _ c.self.invariant.0 c.args.id c.in-Some.queue
    (rw c.deref.ensures.value at c.in-Some.ensures) (in_place c.args.thread c.args.priority)
    ∙ ap (λ s. requeues s c.args.id false c.args.thread c.args.priority) c.self.view_is)

pub returns-in_default : goal.returns-in_default
returns-in_default g c =
    rw (← c.self.view_is)
    (objects_in-unchanged _ _ _ _ c.self.invariant.0 c.args.id
    (rw c.deref.ensures.value at c.in_default.ensures) _)
