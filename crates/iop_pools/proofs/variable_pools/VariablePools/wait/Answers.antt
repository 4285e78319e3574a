use Rattle.std.proofs.Common.{◌≡◌, true, is_some, ap, sym, ◌∙◌, arith}
use Rattle.iop_objects.specs.Objects.{object_of, state_of}
use Rattle.iop_pools.proofs.Variable.{same_variable, variable_waits, variable_size}
use Rattle.iop_pools.proofs.variable_pools.VariablePools.wait.Goals as goal

pub pool_length-requires : goal.pool_length-requires
pool_length-requires c =
    let s = c.self.inside.pools in
    let live : is_some (object_of s.live c.args.id) ≡ true =
    ap (λ t. is_some (object_of t.live c.args.id)) c.self.view_is ∙ c.requires.live in
    let most = variable_size s c.self.invariant c.args.id c.args.size live
    (λ x known. c.requires.within x (ap (λ t. state_of t c.args.id) (sym c.self.view_is) ∙ known)) in
    omega (arith, most)

pub invariant_of-self : goal.invariant_of-self
invariant_of-self c =
    same_variable c.wait.ensures
    (variable_waits c.self.inside.pools c.self.invariant c.args.id _)
