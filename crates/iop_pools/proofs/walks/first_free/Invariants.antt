use Rattle.std.proofs.Common.{◌≡◌}
use Rattle.iop_pools.specs.Standing.{ranges_of, AreInOrder}
use Rattle.iop_pools.specs.Walks.{first_gap}
use Rattle.iop_pools.proofs.RangesOf.{ahead}
use Rattle.iop_pools.proofs.walks.first_free.Given as goal

abbrev pub invariant-loop-out : goal.invariant-loop-out
invariant-loop-out l =
    AreInOrder l.place l.end (ahead l.id l.outs l.out-index)
    × (first_gap l.place l.end l.len (ahead l.id l.outs l.out-index)
    ≡ first_gap l.from l.end l.len (ranges_of l.id l.outs))
