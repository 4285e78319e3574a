use Rattle.iop_pools.proofs.Variable.{same_variable, variable_takes_next}
use Rattle.iop_pools.proofs.variable_pools.VariablePools.pop_waiter.Goals as goal

pub invariant_of-self-2 : goal.invariant_of-self-2
invariant_of-self-2 c =
    same_variable c.take_waiter.ensures.left
    (variable_takes_next c.self.inside.pools c.self.invariant c.args.id _)
