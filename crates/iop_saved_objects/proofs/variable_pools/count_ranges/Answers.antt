use Rattle.std.proofs.Common.{arith}
use Rattle.iop_pools.specs.declared.variable_pool.TheConstants.{MOST_RANGES}
use Rattle.iop_saved_objects.proofs.Counts.{few_ranges}
use Rattle.iop_saved_objects.proofs.variable_pools.count_ranges.Goals as goal

pub returns-in-Some-clause-few : goal.returns-in-Some-clause-few
returns-in-Some-clause-few c =
    omega (
      arith,
      c.len-in-Some.ensures,
      few_ranges MOST_RANGES c.args.pools.now c.args.id c.len.ensures.sound c.in-Some.walk c.in-Some.ensures,
    )
