use Rattle.std.proofs.Common.{◌∙◌, sym, ap, subst, []}
use Rattle.iop_objects.specs.Objects.{Objects, creates}
use Rattle.iop_pools.specs.Standing.{pool_with, pools_in, IsTable}
use Rattle.iop_pools.specs.declared.layout.Layout.{Layout}
use Rattle.iop_pools.proofs.Making.{creates_answer, creates_left, IsTable-created}
use Rattle.iop_pools.proofs.pools.Pools.create.Goals as goal

pub invariant_of-self : goal.invariant_of-self
invariant_of-self g c = (
  subst (λ (o : Objects Layout g.row.W.Denot). IsTable o c.self.inside.outs.items g.row.MOST)
      (sym c.create.ensures.left)
      (IsTable-created c.self.inside.objects c.self.inside.outs.items g.row.MOST
      c.self.invariant.0 c.args.layout c.requires),
  c.self.invariant.1,
)

pub returns-clause-answer : goal.returns-clause-answer
returns-clause-answer g c =
    c.create.ensures.answer
    ∙ creates_answer c.self.inside.objects c.self.inside.outs.items g.row.MOST c.self.invariant.0
    c.args.layout c.requires
    ∙ ap (λ s. (creates s (pool_with c.args.layout [])).0) c.self.view_is

pub returns-clause-left : goal.returns-clause-left
returns-clause-left g c =
    ap (λ (o : Objects Layout g.row.W.Denot). pools_in o c.self.inside.outs.items)
    c.create.ensures.left
    ∙ creates_left c.self.inside.objects c.self.inside.outs.items g.row.MOST c.self.invariant.0
    c.args.layout c.requires
    ∙ ap (λ s. (creates s (pool_with c.args.layout [])).1) c.self.view_is
