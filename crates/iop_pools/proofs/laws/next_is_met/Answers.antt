use Rattle.iop_pools.proofs.MeetsNext.{next_met}
use Rattle.iop_pools.proofs.laws.next_is_met.Goals as goal

pub returns : goal.returns
returns c = next_met
