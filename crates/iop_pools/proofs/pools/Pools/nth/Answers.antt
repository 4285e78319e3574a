use Rattle.iop_pools.proofs.Sound.{nth_unit}
use Rattle.iop_pools.proofs.pools.Pools.nth.Goals as goal

pub returns-clause-unit : goal.returns-clause-unit
returns-clause-unit g c =
    nth_unit c.self.inside.objects c.self.inside.outs.items g.row.MOST c.self.invariant.0
    c.args.place c.nth.result c.nth.ensures
