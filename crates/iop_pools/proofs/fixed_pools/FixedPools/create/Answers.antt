use Rattle.std.proofs.Common.{arith, mul_comm}
use Rattle.iop_pools.proofs.fixed_pools.FixedPools.create.Goals as goal

pub create-requires : goal.create-requires
create-requires c =
    let unit = c.block_for-unit.ensures in
    let inside = c.requires.inside in (
      omega arith,
      record {
        unit = omega (arith, unit, c.requires.some);
        units = c.args.count;
        size = mul_comm c.block_for-unit.result c.args.count;
        few = c.requires.count;
        inside = rw unit inside;
        order = omega arith;
        placed = tt;
      },
    )
