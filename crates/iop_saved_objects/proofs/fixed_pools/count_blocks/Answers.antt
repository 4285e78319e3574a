use Rattle.std.proofs.Common.{arith}
use Rattle.iop_pools.specs.declared.fixed_pool.TheConstants.{MOST_BLOCKS}
use Rattle.iop_saved_objects.proofs.Counts.{few_blocks}
use Rattle.iop_saved_objects.proofs.fixed_pools.count_blocks.Goals as goal

pub returns-in-Some-clause-few : goal.returns-in-Some-clause-few
returns-in-Some-clause-few c =
    omega (
      arith,
      c.len-in-Some.ensures,
      few_blocks MOST_BLOCKS c.args.pools.now c.args.id c.len.ensures.sound c.in-Some.walk c.in-Some.ensures,
    )
