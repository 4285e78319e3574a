use Rattle.iop_thread.proofs.KeptSteadily.{operations_keep_steady}
use Rattle.iop_thread.proofs.laws.operations_keep_steady.Goals as goal

pub returns : goal.returns
returns c = operations_keep_steady
