use Rattle.std.proofs.Common.{◌∙◌, ap, sym, arith}
use Rattle.iop_objects.specs.Objects.{deletes, waiters_of}
use Rattle.iop_objects.proofs.Places.{object_at, no_object}
use Rattle.iop_objects.proofs.TableChanges.{IsTable-deleted, objects_in-deleted}
use Rattle.iop_objects.proofs.Tables.{all_queues, deletes-none}
use Rattle.iop_objects.proofs.objects.Objects.delete.Goals as goal

pub give_back-requires : goal.give_back-requires
give_back-requires g c =
    omega (arith, all_queues _ _ _ _ c.self.invariant.0, c.in-Some.ensures.below)

pub invariant_of-self : goal.invariant_of-self
invariant_of-self g c =
    let at = object_at c.self.inside.live.items c.args.id c.in-Some.place c.remove-object.result
    (rw c.deref.ensures.value at c.in-Some.ensures.place) c.remove-object.ensures.value in
    let none = ap (λ s. waiters_of s c.args.id) c.self.view_is ∙ c.requires.none in (
      rw (c.remove-object.ensures.items, c.give_back.ensures)
          (IsTable-deleted _ _ _ _ c.self.invariant.0 c.args.id _ _ at.0 at.1 none),
      omega (arith, c.remove-object.ensures.capacity, c.self.invariant.1),
    )

pub returns-in-Some : goal.returns-in-Some
returns-in-Some g c =
    let at = object_at c.self.inside.live.items c.args.id c.in-Some.place c.remove-object.result
    (rw c.deref.ensures.value at c.in-Some.ensures.place) c.remove-object.ensures.value in
    let none = ap (λ s. waiters_of s c.args.id) c.self.view_is ∙ c.requires.none in
    rw c.remove-object.ensures.items
    (objects_in-deleted _ _ _ _ c.self.invariant.0 c.args.id _ _ at.0 at.1 none)
    ∙ ap (λ s. deletes s c.args.id) c.self.view_is

pub returns-in_default : goal.returns-in_default
returns-in_default g c =
    rw (← c.self.view_is)
    (sym (deletes-none _ _ _ _ c.self.invariant.0 c.args.id (no_object c.self.inside.live.items
    c.args.id (rw c.deref.ensures.value at c.in_default.ensures.place))))
