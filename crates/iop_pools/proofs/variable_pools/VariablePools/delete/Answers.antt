use Rattle.iop_pools.proofs.Variable.{same_variable, variable_deletes}
use Rattle.iop_pools.proofs.variable_pools.VariablePools.delete.Goals as goal

pub invariant_of-self : goal.invariant_of-self
invariant_of-self c =
    same_variable c.delete.ensures
    (variable_deletes c.self.inside.pools c.self.invariant c.args.id)
