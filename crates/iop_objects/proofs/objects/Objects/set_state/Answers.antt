use Rattle.std.proofs.Common.{◌∙◌, ap, sym}
use Rattle.iop_objects.specs.Objects.{with_state}
use Rattle.iop_objects.proofs.Places.{object_at, no_object}
use Rattle.iop_objects.proofs.TableChanges.{IsTable-state, objects_in-state}
use Rattle.iop_objects.proofs.Tables.{changes-none}
use Rattle.iop_objects.proofs.objects.Objects.set_state.Goals as goal

pub invariant_of-self : goal.invariant_of-self
invariant_of-self g c =
    let at = object_at c.self.inside.live.items c.args.id c.in-Some.place c.index_mut.result.now
    (rw c.deref.ensures.value at c.in-Some.ensures.place) c.index_mut.ensures.value in (
      IsTable-state _ _ _ _ c.self.invariant.0 c.args.id _ _ at.0 c.args.state,
      c.self.invariant.1,
    )

pub returns-in-Some : goal.returns-in-Some
returns-in-Some g c =
    let at = object_at c.self.inside.live.items c.args.id c.in-Some.place c.index_mut.result.now
    (rw c.deref.ensures.value at c.in-Some.ensures.place) c.index_mut.ensures.value in
    objects_in-state _ _ _ _ c.self.invariant.0 c.args.id _ _ at.0 c.args.state
    ∙ ap (λ s. with_state s c.args.id c.args.state) c.self.view_is

pub returns-in_default : goal.returns-in_default
returns-in_default g c =
    rw (← c.self.view_is)
    (sym (changes-none _ _ _ _ c.self.invariant.0 c.args.id (no_object c.self.inside.live.items
    c.args.id (rw c.deref.ensures.value at c.in_default.ensures.place)) _))
