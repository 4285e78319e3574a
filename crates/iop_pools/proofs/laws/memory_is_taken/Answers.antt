use Rattle.iop_pools.proofs.Takes.{memory_is_taken}
use Rattle.iop_pools.proofs.laws.memory_is_taken.Goals as goal

pub returns : goal.returns
returns c = memory_is_taken
