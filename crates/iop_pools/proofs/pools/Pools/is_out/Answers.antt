use Rattle.std.proofs.Common.{◌∙◌, ap, is_some}
use Rattle.iop_pools.specs.Pools.{has_out}
use Rattle.iop_pools.proofs.Freeing.{has_out-is}
use Rattle.iop_pools.proofs.pools.Pools.is_out.Goals as goal

pub returns : goal.returns
returns g c =
    let found = c.place_of.ensures in
    c.is_some.ensures ∙ ap is_some (rw c.deref.ensures.value at found)
    ∙ has_out-is c.self.inside.objects c.self.inside.outs.items g.row.MOST c.self.invariant.0
    c.args.id c.args.block
    ∙ ap (λ s. has_out s c.args.id c.args.block) c.self.view_is
