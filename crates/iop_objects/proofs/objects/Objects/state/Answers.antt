use Rattle.std.proofs.Common.{◌≡◌, ◌∙◌, None, option_map, ap, sym, subst, rules}
use Rattle.iop_objects.specs.Objects.{AreObjects}
use Rattle.iop_objects.proofs.Places.{object_at, no_object}
use Rattle.iop_objects.proofs.Tables.{AreObjects-in, state_of-live}
use Rattle.iop_objects.proofs.objects.Objects.state.Goals as goal

pub returns-in_err-place-clause-known : goal.returns-in_err-place-clause-known
returns-in_err-place-clause-known g c =
    let none : c.from_residual.result ≡ None = search rules in
    rw (none, ← c.self.view_is)
    (sym (state_of-live _ _ _ _ c.self.invariant.0 c.args.id
    ∙ ap (option_map (λ o. o.state)) (no_object c.self.inside.live.items c.args.id
    (rw c.deref.ensures.value at c.in_err-place.ensures.place))))

pub returns-in_err-place-clause-sound : goal.returns-in_err-place-clause-sound
returns-in_err-place-clause-sound g c =
    subst AreObjects c.self.view_is (AreObjects-in _ _ _ _ c.self.invariant.0)

pub returns-clause-known : goal.returns-clause-known
returns-clause-known g c =
    let at = object_at c.self.inside.live.items c.args.id c.in_ok-place.place c.index.result.now
    (rw c.deref.ensures.value at c.in_ok-place.ensures.place) c.index.ensures in
    rw (← c.self.view_is)
    (sym (state_of-live _ _ _ _ c.self.invariant.0 c.args.id ∙ ap (option_map (λ o. o.state)) at.1))

pub returns-clause-sound : goal.returns-clause-sound
returns-clause-sound g c =
    subst AreObjects c.self.view_is (AreObjects-in _ _ _ _ c.self.invariant.0)
