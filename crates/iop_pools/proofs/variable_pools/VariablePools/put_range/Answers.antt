use Rattle.std.proofs.Common.{ℕ, sym, ◌∙◌}
use Rattle.std.proofs.lemmas.Bool.{cond_both}
use Rattle.iop_pools.specs.Pools.{Pools}
use Rattle.iop_pools.specs.Standing.{AreVariable}
use Rattle.iop_pools.proofs.Variable.{same_variable, variable_puts_range}
use Rattle.iop_pools.proofs.variable_pools.VariablePools.put_range.Goals as goal

pub invariant_of-self : goal.invariant_of-self
invariant_of-self c =
    same_variable c.put_range.ensures.put
    (cond_both c.put_range.result _ _ (λ (t : Pools ℕ). AreVariable t)
    (λ may. variable_puts_range c.self.inside.pools c.self.invariant c.args.id c.args.start
    c.args.size (sym c.put_range.ensures.may ∙ may))
    (λ may_not. c.self.invariant))
