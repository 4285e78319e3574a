use Rattle.iop_pools.proofs.Variable.{same_variable, variable_drops}
use Rattle.iop_pools.proofs.variable_pools.VariablePools.drop_waiter.Goals as goal

pub invariant_of-self : goal.invariant_of-self
invariant_of-self c =
    same_variable c.drop_waiter.ensures
    (variable_drops c.self.inside.pools c.self.invariant c.args.id c.args.thread)
