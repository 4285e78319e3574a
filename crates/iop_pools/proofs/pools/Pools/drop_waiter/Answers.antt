use Rattle.std.proofs.Common.{◌∙◌, sym, ap, subst}
use Rattle.iop_objects.specs.Objects.{Objects, drops}
use Rattle.iop_pools.specs.Standing.{pools_in, IsTable}
use Rattle.iop_pools.specs.declared.layout.Layout.{Layout}
use Rattle.iop_pools.proofs.Reading.{changed_waiters-in, IsTable-with_waiters}
use Rattle.iop_pools.proofs.pools.Pools.drop_waiter.Goals as goal
use Rattle.iop_objects.specs.WaiterQueues.{without}

pub invariant_of-self : goal.invariant_of-self
invariant_of-self g c = (
  subst (λ (o : Objects Layout g.row.W.Denot). IsTable o c.self.inside.outs.items g.row.MOST)
      (sym c.drop_waiter.ensures)
      (IsTable-with_waiters c.self.inside.objects c.self.inside.outs.items g.row.MOST
      c.self.invariant.0 c.args.id _),
  c.self.invariant.1,
)

pub returns : goal.returns
returns g c =
    ap (λ (o : Objects Layout g.row.W.Denot). pools_in o c.self.inside.outs.items)
    c.drop_waiter.ensures
    ∙ changed_waiters-in c.self.inside.objects c.self.inside.outs.items c.args.id (without
    c.args.thread)
    ∙ ap (λ s. drops s c.args.id c.args.thread) c.self.view_is
