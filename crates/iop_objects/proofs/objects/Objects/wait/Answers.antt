use Rattle.std.proofs.Common.{◌∙◌, is_some, ap, arith, [], ◌∷◌, ◌++◌}
use Rattle.iop_objects.specs.Objects.{object_of, waiting, waits}
use Rattle.iop_objects.proofs.TableQueues.{queue_below, objects_in-changed, IsTable-changed, not_live}
use Rattle.iop_objects.proofs.Tables.{all_waiting}
use Rattle.iop_objects.proofs.objects.Objects.wait.Goals as goal

pub push-requires : goal.push-requires
push-requires g c = (
  omega arith,
  (
    queue_below _ _ _ _ c.self.invariant.0 c.args.id c.in-Some.queue
        (rw c.deref.ensures.value at c.in-Some.ensures),
    omega (
      arith,
      all_waiting _ _ _ _ c.self.invariant.0,
      ap waiting c.self.view_is,
      c.requires.room,
    ),
  ),
)

pub invariant_of-self : goal.invariant_of-self
invariant_of-self g c = (
  rw c.push.ensures
      (IsTable-changed _ _ _ _ c.self.invariant.0 c.args.id c.in-Some.queue
      (rw c.deref.ensures.value at c.in-Some.ensures) _),
  c.self.invariant.1,
)

pub returns-in-Some : goal.returns-in-Some
returns-in-Some g c =
    rw c.push.ensures
    (objects_in-changed _ _ _ _ c.self.invariant.0 c.args.id c.in-Some.queue
    (rw c.deref.ensures.value at c.in-Some.ensures)
    (λ q. q ++ record { priority = c.args.priority; item = c.args.waiter } ∷ []))
    ∙ ap (λ s. waits s c.args.id (record { priority = c.args.priority; item = c.args.waiter }))
    c.self.view_is

pub returns-in_default : goal.returns-in_default
returns-in_default g c =
    let live = ap (λ s. is_some (object_of s.live c.args.id)) c.self.view_is ∙ c.requires.live in
    let dead = not_live _ _ _ _ c.self.invariant.0 c.args.id
    (rw c.deref.ensures.value at c.in_default.ensures) in
    cc
