use Rattle.std.proofs.Common.{◌∙◌, sym, ap, subst, option_map}
use Rattle.iop_objects.specs.Objects.{state_of}
use Rattle.iop_pools.specs.Pools.{Pools}
use Rattle.iop_pools.specs.Standing.{layout_of, IsPool, ArePools}
use Rattle.iop_pools.proofs.Reading.{layout-in}
use Rattle.iop_pools.proofs.Tables.{state_holds}
use Rattle.iop_pools.proofs.pools.Pools.layout.Goals as goal

pub returns-clause-known : goal.returns-clause-known
returns-clause-known g c =
    c.state.ensures.known ∙ sym (layout-in c.self.inside.objects c.self.inside.outs.items c.args.id)
    ∙ ap (λ s. option_map layout_of (state_of s c.args.id)) c.self.view_is

pub returns-clause-sound : goal.returns-clause-sound
returns-clause-sound g c =
    λ x is. state_holds (IsPool g.row.MOST) c.args.id c.args.self.now.live x is
    (subst (λ (s : Pools g.row.W.Denot). ArePools g.row.MOST s) c.self.view_is
    c.self.invariant.0.pools)

pub returns-clause-pools : goal.returns-clause-pools
returns-clause-pools g c =
    subst (λ (s : Pools g.row.W.Denot). ArePools g.row.MOST s) c.self.view_is
    c.self.invariant.0.pools
