use Rattle.iop_pools.proofs.MemoryOut.{memory_is_out}
use Rattle.iop_pools.proofs.laws.memory_is_out.Goals as goal

pub returns : goal.returns
returns c = memory_is_out
