use Rattle.iop_pools.proofs.Variable.{same_variable, variable_frees}
use Rattle.iop_pools.proofs.variable_pools.VariablePools.give.Goals as goal

pub invariant_of-self : goal.invariant_of-self
invariant_of-self c =
    same_variable c.give_back.ensures.left
    (variable_frees c.self.inside.pools c.self.invariant c.args.id c.args.block)
