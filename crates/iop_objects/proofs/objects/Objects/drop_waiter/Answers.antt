use Rattle.std.proofs.Common.{◌∙◌, ap, arith}
use Rattle.iop_objects.specs.Objects.{drops}
use Rattle.iop_objects.specs.WaiterQueues.{without}
use Rattle.iop_objects.proofs.TableQueues.{queue_below, objects_in-changed, IsTable-changed, objects_in-unchanged}
use Rattle.iop_objects.proofs.objects.Objects.drop_waiter.Goals as goal

pub remove_where-requires : goal.remove_where-requires
remove_where-requires g c = (
  omega arith,
  queue_below _ _ _ _ c.self.invariant.0 c.args.id c.in-Some.queue
      (rw c.deref.ensures.value at c.in-Some.ensures),
)

pub invariant_of-self : goal.invariant_of-self
invariant_of-self g c = (
  rw c.remove_where.ensures
      (IsTable-changed _ _ _ _ c.self.invariant.0 c.args.id c.in-Some.queue
      (rw c.deref.ensures.value at c.in-Some.ensures) _),
  c.self.invariant.1,
)

pub returns-in-Some : goal.returns-in-Some
returns-in-Some g c =
    rw c.remove_where.ensures
    (objects_in-changed _ _ _ _ c.self.invariant.0 c.args.id c.in-Some.queue
    (rw c.deref.ensures.value at c.in-Some.ensures) (without c.args.thread))
    ∙ ap (λ s. drops s c.args.id c.args.thread) c.self.view_is

pub returns-in_default : goal.returns-in_default
returns-in_default g c =
    rw (← c.self.view_is)
    (objects_in-unchanged _ _ _ _ c.self.invariant.0 c.args.id
    (rw c.deref.ensures.value at c.in_default.ensures) _)
