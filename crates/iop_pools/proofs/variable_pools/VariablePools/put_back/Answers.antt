use Rattle.std.proofs.Common.{ℕ, arith}
use Rattle.std.proofs.lemmas.Bool.{cond_both}
use Rattle.iop_pools.specs.Pools.{Pools}
use Rattle.iop_pools.specs.Standing.{AreVariable}
use Rattle.iop_pools.proofs.Sizes.{variable_stands}
use Rattle.iop_pools.proofs.Variable.{same_variable, variable_puts, variable_layout}
use Rattle.iop_pools.proofs.variable_pools.VariablePools.put_back.Goals as goal

pub put_back-requires : goal.put_back-requires
put_back-requires c =
    (omega arith, variable_stands c.args.layout c.in-Some.layout c.in-Some.ensures)

pub invariant_of-self : goal.invariant_of-self
invariant_of-self c =
    same_variable c.put_back.ensures.put
    (cond_both c.put_back.result _ _ (λ (t : Pools ℕ). AreVariable t)
    (λ may. variable_puts c.self.inside.pools c.self.invariant c.args.id _
    (variable_layout c.args.layout c.in-Some.layout c.in-Some.ensures))
    (λ may_not. c.self.invariant))
