use Rattle.std.proofs.Common.{◌∙◌, sym, ap, Some, option_map, length, count_by, filter, List}
use Rattle.std.specs.Prelude.{◌==◌}
use Rattle.std.proofs.lemmas.List.{length-map}
use Rattle.std.proofs.lemmas.List.Sums.{length-filter}
use Rattle.iop_objects.specs.Objects.{state_of}
use Rattle.iop_pools.specs.Pools.{Pool}
use Rattle.iop_pools.specs.declared.out.Out.{Out}
use Rattle.iop_pools.proofs.Sound.{state_is, state_none}
use Rattle.iop_pools.proofs.pools.Pools.count.Goals as goal

pub returns : goal.returns
returns g c =
    let own : Out → _ = λ o. o.pool == c.args.id in
    let outs = c.self.inside.outs.items in
    let x = c.in_ok-state.field-0 in
    let known = state_is c.self.inside.objects c.self.inside.outs.items g.row.MOST
    c.self.invariant.0 c.args.id x c.in_ok-state.ensures.known in
    ap Some (c.count.ensures ∙ ap (λ (l : List Out). count_by own l) c.deref.ensures.value
    ∙ sym (length-map (filter own outs) (λ o. o.range) ∙ length-filter own outs))
    ∙ sym (ap (option_map (λ (y : Pool). length y.ranges)) known)
    ∙ ap (λ s. option_map (λ (y : Pool). length y.ranges) (state_of s c.args.id)) c.self.view_is

pub returns-in_err-state : goal.returns-in_err-state
returns-in_err-state g c =
    c.from_residual.ensures
    ∙ sym (ap (option_map (λ (y : Pool). length y.ranges))
    (state_none c.self.inside.objects c.self.inside.outs.items g.row.MOST c.self.invariant.0
    c.args.id c.in_err-state.ensures.known))
    ∙ ap (λ s. option_map (λ (y : Pool). length y.ranges) (state_of s c.args.id)) c.self.view_is
