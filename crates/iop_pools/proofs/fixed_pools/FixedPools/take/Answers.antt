use Rattle.std.proofs.Common.{arith}
use Rattle.iop_pools.proofs.Layouts.{layout_unit}
use Rattle.iop_pools.proofs.fixed_pools.FixedPools.take.Goals as goal

pub take-requires : goal.take-requires
take-requires c =
    (omega arith, layout_unit _ _ _ c.in-Some.ensures.known c.in-Some.ensures.sound)
