use Rattle.std.proofs.Common.{◌∙◌, sym, ap, subst}
use Rattle.iop_objects.specs.Objects.{Objects, takes_next_where}
use Rattle.iop_pools.specs.Standing.{pools_in, IsTable}
use Rattle.iop_pools.specs.declared.layout.Layout.{Layout}
use Rattle.iop_pools.proofs.Reading.{takes-in, IsTable-taken}
use Rattle.iop_pools.proofs.pools.Pools.take_waiter_where.Goals as goal
use Rattle.iop_queues.specs.Queue.{chooses_next_where}

pub invariant_of-self : goal.invariant_of-self
invariant_of-self g c = (
  subst (λ (o : Objects Layout g.row.W.Denot). IsTable o c.self.inside.outs.items g.row.MOST)
      (sym c.take_next_where.ensures.left)
      (IsTable-taken c.self.inside.objects c.self.inside.outs.items g.row.MOST c.self.invariant.0
      c.args.id _),
  c.self.invariant.1,
)

pub returns-clause-answer : goal.returns-clause-answer
returns-clause-answer g c =
    let b = c.by_priority-by_priority.result in
    let p = g.C.Condition.holds_for c.args.condition.now in
    c.take_next_where.ensures.answer
    ∙ (takes-in c.self.inside.objects c.self.inside.outs.items c.args.id (chooses_next_where b p)).0
    ∙ ap (λ s. (takes_next_where s c.args.id b p).0) c.self.view_is
    ∙ ap (λ b. (takes_next_where c.args.self.now c.args.id b p).0)
    c.by_priority-by_priority.ensures

pub returns-clause-left : goal.returns-clause-left
returns-clause-left g c =
    let b = c.by_priority-by_priority.result in
    let p = g.C.Condition.holds_for c.args.condition.now in
    ap (λ (o : Objects Layout g.row.W.Denot). pools_in o c.self.inside.outs.items)
    c.take_next_where.ensures.left
    ∙ (takes-in c.self.inside.objects c.self.inside.outs.items c.args.id (chooses_next_where b p)).1
    ∙ ap (λ s. (takes_next_where s c.args.id b p).1) c.self.view_is
    ∙ ap (λ b. (takes_next_where c.args.self.now c.args.id b p).1)
    c.by_priority-by_priority.ensures
