use Rattle.std.proofs.Common.{◌≡◌, max}
use Rattle.iop_pools.specs.Ranges.{gaps, greatest}
use Rattle.iop_pools.specs.Standing.{ranges_of, AreInOrder}
use Rattle.iop_pools.proofs.RangesOf.{ahead}
use Rattle.iop_pools.proofs.walks.greatest_free.Given as goal

abbrev pub invariant-loop-out : goal.invariant-loop-out
invariant-loop-out l =
    AreInOrder l.place l.end (ahead l.id l.outs l.out-index)
    × (max l.most (greatest (gaps l.place l.end (ahead l.id l.outs l.out-index)))
    ≡ greatest (gaps l.from l.end (ranges_of l.id l.outs)))
