use Rattle.iop_stubs.proofs.Joining.{stores_join}
use Rattle.iop_stubs.proofs.laws.stores_join.Goals as goal

pub returns : goal.returns
returns c = stores_join
