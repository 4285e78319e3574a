use Rattle.std.proofs.Common.{◌∙◌, sym, ap, subst, if◌then◌else◌, []}
use Rattle.iop_objects.specs.Objects.{Objects}
use Rattle.iop_objects.specs.Restoring.{with_last}
use Rattle.iop_pools.specs.Pools.{Pools}
use Rattle.iop_pools.specs.Standing.{pool_with, pools_in, IsTable}
use Rattle.iop_pools.specs.declared.layout.Layout.{Layout}
use Rattle.iop_pools.proofs.Making.{put_back-left, IsTable-put_back}
use Rattle.iop_pools.proofs.pools.Pools.put_back.Goals as goal

pub invariant_of-self : goal.invariant_of-self
invariant_of-self g c = (
  subst (λ (o : Objects Layout g.row.W.Denot). IsTable o c.self.inside.outs.items g.row.MOST)
      (sym c.put_back.ensures.put)
      (IsTable-put_back c.self.inside.objects c.self.inside.outs.items g.row.MOST
      c.self.invariant.0 c.args.layout c.requires c.args.id c.put_back.result
      c.put_back.ensures.may),
  c.self.invariant.1,
)

pub returns-clause-put : goal.returns-clause-put
returns-clause-put g c =
    ap (λ (o : Objects Layout g.row.W.Denot). pools_in o c.self.inside.outs.items)
    c.put_back.ensures.put
    ∙ put_back-left c.self.inside.objects c.self.inside.outs.items g.row.MOST
    c.self.invariant.0 c.args.layout c.requires c.args.id c.put_back.result
    c.put_back.ensures.may
    ∙ ap (λ (s : Pools g.row.W.Denot). if c.put_back.result
    then with_last s c.args.id (pool_with c.args.layout []) else s) c.self.view_is
