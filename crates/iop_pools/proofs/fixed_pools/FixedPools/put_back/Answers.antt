use Rattle.std.proofs.Common.{arith}
use Rattle.iop_pools.proofs.Sizes.{fixed_stands}
use Rattle.iop_pools.proofs.fixed_pools.FixedPools.put_back.Goals as goal

pub put_back-requires : goal.put_back-requires
put_back-requires c =
    (omega arith, fixed_stands c.args.layout c.in-Some.layout c.in-Some.ensures)
