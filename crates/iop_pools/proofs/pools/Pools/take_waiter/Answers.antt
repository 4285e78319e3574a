use Rattle.std.proofs.Common.{◌∙◌, sym, ap, subst}
use Rattle.iop_objects.specs.Objects.{Objects, takes_next}
use Rattle.iop_pools.specs.Standing.{pools_in, IsTable}
use Rattle.iop_pools.specs.declared.layout.Layout.{Layout}
use Rattle.iop_pools.proofs.Reading.{takes-in, IsTable-taken}
use Rattle.iop_pools.proofs.pools.Pools.take_waiter.Goals as goal
use Rattle.iop_queues.specs.Queue.{chooses}

pub invariant_of-self : goal.invariant_of-self
invariant_of-self g c = (
  subst (λ (o : Objects Layout g.row.W.Denot). IsTable o c.self.inside.outs.items g.row.MOST)
      (sym c.take_next.ensures.left)
      (IsTable-taken c.self.inside.objects c.self.inside.outs.items g.row.MOST c.self.invariant.0
      c.args.id _),
  c.self.invariant.1,
)

pub returns-clause-answer : goal.returns-clause-answer
returns-clause-answer g c =
    let b = c.by_priority-by_priority.result in
    c.take_next.ensures.answer
    ∙ (takes-in c.self.inside.objects c.self.inside.outs.items c.args.id (chooses b)).0
    ∙ ap (λ s. (takes_next s c.args.id b).0) c.self.view_is
    ∙ ap (λ b. (takes_next c.args.self.now c.args.id b).0) c.by_priority-by_priority.ensures

pub returns-clause-left : goal.returns-clause-left
returns-clause-left g c =
    let b = c.by_priority-by_priority.result in
    ap (λ (o : Objects Layout g.row.W.Denot). pools_in o c.self.inside.outs.items)
    c.take_next.ensures.left
    ∙ (takes-in c.self.inside.objects c.self.inside.outs.items c.args.id (chooses b)).1
    ∙ ap (λ s. (takes_next s c.args.id b).1) c.self.view_is
    ∙ ap (λ b. (takes_next c.args.self.now c.args.id b).1) c.by_priority-by_priority.ensures
