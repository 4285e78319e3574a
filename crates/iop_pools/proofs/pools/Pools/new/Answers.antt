use Rattle.std.proofs.Common.{sym, subst, arith, [], List}
use Rattle.iop_objects.specs.Objects.{Objects}
use Rattle.iop_pools.specs.Standing.{IsTable}
use Rattle.iop_pools.specs.declared.layout.Layout.{Layout}
use Rattle.iop_pools.specs.declared.out.Out.{Out}
use Rattle.iop_pools.proofs.Making.{IsTable-first}
use Rattle.iop_pools.proofs.pools.Pools.new.Goals as goal

pub invariant_of-result : goal.invariant_of-result
invariant_of-result g c = (
  subst (λ (l : List Out). IsTable c.in_ok-objects.objects l g.row.MOST)
      (sym c.in_ok-outs.ensures.items)
      (subst (λ (o : Objects Layout g.row.W.Denot). IsTable o [] g.row.MOST)
      (sym c.in_ok-objects.ensures) (IsTable-first g.row.MOST)),
  omega (arith, c.in_ok-outs.ensures.exact),
)
