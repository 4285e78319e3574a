use Rattle.iop_pools.proofs.Giving.{memory_is_given}
use Rattle.iop_pools.proofs.laws.memory_is_given.Goals as goal

pub returns : goal.returns
returns c = memory_is_given
