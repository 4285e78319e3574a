use Rattle.iop_pools.proofs.Variable.{same_variable, variable_requeues}
use Rattle.iop_pools.proofs.variable_pools.VariablePools.requeue.Goals as goal

pub invariant_of-self : goal.invariant_of-self
invariant_of-self c =
    same_variable c.requeue.ensures
    (variable_requeues c.self.inside.pools c.self.invariant c.args.id _ c.args.thread
    c.args.priority)
