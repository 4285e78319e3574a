use Rattle.std.proofs.Common.{arith}
use Rattle.iop_pools.proofs.Variable.{same_variable, variable_takes}
use Rattle.iop_pools.proofs.variable_pools.VariablePools.take.Goals as goal

pub invariant_of-self : goal.invariant_of-self
invariant_of-self c =
    same_variable c.take.ensures.left
    (variable_takes c.self.inside.pools c.self.invariant c.args.id c.args.size
    (omega (arith, c.if-size-eq0.false)))
