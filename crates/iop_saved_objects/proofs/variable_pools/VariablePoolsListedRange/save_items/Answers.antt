use Rattle.std.proofs.Common.{arith}
use Rattle.iop_pools.specs.Pools.{Pool}
use Rattle.iop_objects.specs.Objects.{state_of}
use Rattle.iop_saved_objects.proofs.Ahead.{saved_as}
use Rattle.iop_saved_objects.proofs.Places.{content_ahead, content_counted}
use Rattle.iop_saved_objects.proofs.variable_pools.VariablePoolsListedRange.save_items.Goals as goal

pub save_records-requires : goal.save_records-requires
save_records-requires g c =
    let known = state_of c.args.self.now c.args.id in record {
      counted = content_counted (λ (x : Pool). x.ranges) known c.count_ranges.result c.ranges-2.result
          c.count_ranges.ensures.count c.ranges-2.ensures;
      few = omega (arith, c.count_ranges.ensures.few);
    }

pub returns : goal.returns
returns g c =
    let known = state_of c.args.self.now c.args.id in
    saved_as c.save_records.ensures
    (content_ahead (λ (x : Pool). x.ranges) known c.ranges-2.result c.ranges-2.ensures)
