use Rattle.std.proofs.Common.{◌≡◌, ◌∙◌, None, Some, option_map, ap, sym, rules}
use Rattle.iop_objects.proofs.Places.{object_at, no_object}
use Rattle.iop_objects.proofs.objects.queue_of.Goals as goal

pub returns-in_err-place : goal.returns-in_err-place
returns-in_err-place g c =
    let none : c.from_residual.result ≡ None = search rules in
    none
    ∙ sym (ap (option_map (λ o. o.queue))
    (no_object c.args.live.now c.args.id c.in_err-place.ensures.place))

pub returns : goal.returns
returns g c =
    let at = object_at c.args.live.now c.args.id c.in_ok-place.place c.index-live-place.result
    c.in_ok-place.ensures.place c.index-live-place.is in
    ap (λ o. Some o.queue) at.0.object ∙ sym (ap (option_map (λ o. o.queue)) at.1)
