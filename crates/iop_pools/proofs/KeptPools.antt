-- What always holds of a pool is kept where memory is taken of it, and where it is given back.
use Rattle.std.proofs.Common.{◌≡◌, ℕ, ◌+◌, ◌<◌, true, Some, sym, ◌∙◌, arith, mul-pos}
use Rattle.std.specs.Int.{div_ceil}
use Rattle.iop_pools.specs.Pools.{Pool, length_for, place_for}
use Rattle.iop_pools.specs.Ranges.{end_of, with_range, without}
use Rattle.iop_pools.specs.Restoring.{last_end, may_be_last, with_last_range}
use Rattle.iop_pools.specs.Standing.{layout_of, IsPlace, IsPool}
use Rattle.iop_pools.proofs.Gaps.{range_at, order-with, placed-gap, placed-with, order-without, placed-without}
use Rattle.iop_pools.proofs.LastRanges.{facts_of, first_place, last_place, last_end-le, order-push, placed-push}
use Rattle.iop_pools.proofs.Meeting.{place_gap}
use Rattle.iop_pools.proofs.Taking.{ceil_some}

module _ (most : ℕ) (x : Pool) (sound : IsPool most x) where
  pub pool_taken : (size place : ℕ) → 0 < size → place_for x size ≡ Some place
      → IsPool most (record x { ranges = with_range (range_at place (length_for x size)) x.ranges })
  pool_taken size place some is =
      let len = length_for x size in
      let end = x.base + x.size in
      let long : 0 < len = mul-pos (ceil_some size x.unit some) sound.unit in
      let gap = sym (place_gap most x sound size some) ∙ is in
      let first : IsPlace x.base x.unit place =
      placed-gap x.base x.unit x.base end len place x.ranges (0, omega arith) sound.placed gap in
      let last : IsPlace x.base x.unit (end_of (range_at place len)) =
      (first.0 + div_ceil size x.unit, omega (arith, first.1)) in
      record {
        unit = sound.unit;
        units = sound.units;
        size = sound.size;
        few = sound.few;
        inside = sound.inside;
        order = order-with x.base end len place long x.ranges sound.order gap;
        placed = placed-with x.base x.unit (range_at place len) first last x.ranges sound.placed;
      }

  pub pool_freed : (block : ℕ) → IsPool most (record x { ranges = without block x.ranges })
  pool_freed block = record {
    unit = sound.unit;
    units = sound.units;
    size = sound.size;
    few = sound.few;
    inside = sound.inside;
    order = order-without block x.base (x.base + x.size) x.ranges sound.order;
    placed = placed-without x.base x.unit block x.ranges sound.placed;
  }

  -- and where some of it is out again, behind all that is
  pub pool_put : (start size : ℕ) → may_be_last start size x ≡ true
      → IsPool most (with_last_range start size x)
  pool_put start size may =
      let from = last_end x.base x.ranges in
      let facts = facts_of (layout_of x) from start size may in
      let inside = last_end-le x.base (x.base + x.size) x.ranges sound.order in
      record {
        unit = sound.unit;
        units = sound.units;
        size = sound.size;
        few = sound.few;
        inside = sound.inside;
        order = order-push x.base (x.base + x.size) start size x.ranges sound.order facts.behind
            facts.some facts.inside;
        placed = placed-push x.base x.unit (range_at start size)
            (first_place (layout_of x) from start size facts inside.0)
            (last_place (layout_of x) from start size facts inside.0) x.ranges sound.placed;
      }
