use Rattle.std.proofs.Common.{◌≡◌, ◌+◌, ◌≤◌}
use Rattle.iop_pools.specs.Ranges.{gaps, total}
use Rattle.iop_pools.specs.Standing.{ranges_of, AreInOrder}
use Rattle.iop_pools.proofs.RangesOf.{ahead}
use Rattle.iop_pools.proofs.walks.total_free.Given as goal

abbrev pub invariant-loop-out : goal.invariant-loop-out
invariant-loop-out l =
    AreInOrder l.place l.end (ahead l.id l.outs l.out-index)
    × (l.free ≤ l.place)
    × (l.free + total (gaps l.place l.end (ahead l.id l.outs l.out-index))
    ≡ total (gaps l.from l.end (ranges_of l.id l.outs)))
