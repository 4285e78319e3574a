use Rattle.iop_thread.proofs.Sleepers.{operations_keep_sleepers}
use Rattle.iop_thread.proofs.laws.operations_keep_sleepers.Goals as goal

pub returns : goal.returns
returns c = operations_keep_sleepers
