use Rattle.std.proofs.Common.{◌∙◌, sym, ap, Some, option_map, List}
use Rattle.iop_objects.specs.Objects.{state_of}
use Rattle.iop_pools.specs.Pools.{Pool}
use Rattle.iop_pools.specs.Standing.{ranges_of}
use Rattle.iop_pools.specs.declared.out.Out.{Out}
use Rattle.iop_pools.proofs.Sound.{state_is, state_none}
use Rattle.iop_pools.proofs.pools.Pools.ranges.Goals as goal

pub returns : goal.returns
returns g c =
    let known = state_is c.self.inside.objects c.self.inside.outs.items g.row.MOST
    c.self.invariant.0 c.args.id c.in_ok-state.field-0 c.in_ok-state.ensures.known in
    ap Some (c.new.ensures ∙ ap (λ (l : List Out). ranges_of c.args.id l) c.deref.ensures.value)
    ∙ sym (ap (option_map (λ (y : Pool). y.ranges)) known)
    ∙ ap (λ s. option_map (λ (y : Pool). y.ranges) (state_of s c.args.id)) c.self.view_is

pub returns-in_err-state : goal.returns-in_err-state
returns-in_err-state g c =
    c.from_residual.ensures
    ∙ sym (ap (option_map (λ (y : Pool). y.ranges))
    (state_none c.self.inside.objects c.self.inside.outs.items g.row.MOST c.self.invariant.0
    c.args.id c.in_err-state.ensures.known))
    ∙ ap (λ s. option_map (λ (y : Pool). y.ranges) (state_of s c.args.id)) c.self.view_is
