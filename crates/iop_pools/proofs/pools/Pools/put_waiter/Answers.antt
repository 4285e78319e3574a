use Rattle.std.proofs.Common.{◌∙◌, sym, ap, subst, if◌then◌else◌}
use Rattle.iop_objects.specs.Objects.{Objects, waits}
use Rattle.iop_objects.specs.Restoring.{may_wait}
use Rattle.iop_pools.specs.Pools.{Pools}
use Rattle.iop_pools.specs.Standing.{pools_in, IsTable}
use Rattle.iop_pools.specs.declared.layout.Layout.{Layout}
use Rattle.iop_pools.proofs.Reading.{may_wait-in, waits_if-in, IsTable-waits_if}
use Rattle.iop_pools.proofs.pools.Pools.put_waiter.Goals as goal

pub invariant_of-self : goal.invariant_of-self
invariant_of-self g c = (
  subst (λ (o : Objects Layout g.row.W.Denot). IsTable o c.self.inside.outs.items g.row.MOST)
      (sym c.put_waiter.ensures.put)
      (IsTable-waits_if c.self.inside.objects c.self.inside.outs.items g.row.MOST
      c.self.invariant.0 c.args.id _ c.put_waiter.result),
  c.self.invariant.1,
)

pub returns-clause-may : goal.returns-clause-may
returns-clause-may g c =
    c.put_waiter.ensures.may
    ∙ sym (may_wait-in c.self.inside.objects c.self.inside.outs.items c.args.id)
    ∙ ap (λ s. may_wait s c.args.id) c.self.view_is

pub returns-clause-put : goal.returns-clause-put
returns-clause-put g c =
    ap (λ (o : Objects Layout g.row.W.Denot). pools_in o c.self.inside.outs.items)
    c.put_waiter.ensures.put
    ∙ waits_if-in c.self.inside.objects c.self.inside.outs.items c.args.id _ c.put_waiter.result
    ∙ ap (λ (s : Pools g.row.W.Denot). if c.put_waiter.result
    then waits s c.args.id (record { priority = c.args.priority; item = c.args.waiter }) else s)
    c.self.view_is
