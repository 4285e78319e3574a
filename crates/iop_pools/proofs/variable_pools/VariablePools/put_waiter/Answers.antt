use Rattle.std.proofs.Common.{ℕ}
use Rattle.std.proofs.lemmas.Bool.{cond_both}
use Rattle.iop_pools.specs.Pools.{Pools}
use Rattle.iop_pools.specs.Standing.{AreVariable}
use Rattle.iop_pools.proofs.Variable.{same_variable, variable_waits}
use Rattle.iop_pools.proofs.variable_pools.VariablePools.put_waiter.Goals as goal

pub invariant_of-self : goal.invariant_of-self
invariant_of-self c =
    same_variable c.put_waiter.ensures.put
    (cond_both c.put_waiter.result _ _ (λ (t : Pools ℕ). AreVariable t)
    (λ may. variable_waits c.self.inside.pools c.self.invariant c.args.id _)
    (λ may_not. c.self.invariant))
