use Rattle.std.proofs.Common.{refl, arith, div-add-mod'}
use Rattle.std.specs.Int.{div_ceil}
use Rattle.iop_pools.proofs.Variable.{same_variable, variable_creates}
use Rattle.iop_pools.proofs.variable_pools.VariablePools.create.Goals as goal

pub create-requires : goal.create-requires
create-requires c =
    let length = c.pool_length.ensures in (
      omega arith,
      record {
        unit = omega arith;
        units = div_ceil c.args.size 16;
        size = length;
        few = omega (arith, c.requires.size);
        inside = omega (arith, c.requires.inside, length);
        order = omega arith;
        placed = tt;
      },
    )

pub invariant_of-self : goal.invariant_of-self
invariant_of-self c =
    same_variable c.create.ensures.left
    (variable_creates c.self.inside.pools c.self.invariant _
    (record {
      unit = refl;
      most = omega (arith, c.requires.size, c.pool_length.ensures, div-add-mod' c.args.size 16);
    }))
