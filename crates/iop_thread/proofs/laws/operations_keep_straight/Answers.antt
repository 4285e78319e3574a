use Rattle.iop_thread.proofs.KeptSteadily.{operations_keep_straight}
use Rattle.iop_thread.proofs.laws.operations_keep_straight.Goals as goal

pub returns : goal.returns
returns c = operations_keep_straight
