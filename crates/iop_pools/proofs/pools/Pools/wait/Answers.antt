use Rattle.std.proofs.Common.{◌∙◌, sym, ap, subst, is_some}
use Rattle.iop_objects.specs.Objects.{Objects, object_of, waits}
use Rattle.iop_pools.specs.Standing.{pools_in, IsTable}
use Rattle.iop_pools.specs.declared.layout.Layout.{Layout}
use Rattle.iop_pools.proofs.Reading.{is_live-in, waits-in, IsTable-with_waiters}
use Rattle.iop_pools.proofs.pools.Pools.wait.Goals as goal

pub wait-requires-clause-live : goal.wait-requires-clause-live
wait-requires-clause-live g c =
    sym (is_live-in c.self.inside.objects c.self.inside.outs.items c.args.id)
    ∙ ap (λ s. is_some (object_of s.live c.args.id)) c.self.view_is ∙ c.requires.live

pub invariant_of-self : goal.invariant_of-self
invariant_of-self g c = (
  subst (λ (o : Objects Layout g.row.W.Denot). IsTable o c.self.inside.outs.items g.row.MOST)
      (sym c.wait.ensures)
      (IsTable-with_waiters c.self.inside.objects c.self.inside.outs.items g.row.MOST
      c.self.invariant.0 c.args.id _),
  c.self.invariant.1,
)

pub returns : goal.returns
returns g c =
    ap (λ (o : Objects Layout g.row.W.Denot). pools_in o c.self.inside.outs.items) c.wait.ensures
    ∙ waits-in c.self.inside.objects c.self.inside.outs.items c.args.id _
    ∙ ap (λ s. waits s c.args.id (record { priority = c.args.priority; item = c.args.waiter }))
    c.self.view_is
