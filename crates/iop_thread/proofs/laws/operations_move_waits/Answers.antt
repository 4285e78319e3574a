use Rattle.iop_thread.proofs.Waits.{operations_move_waits}
use Rattle.iop_thread.proofs.laws.operations_move_waits.Goals as goal

pub returns : goal.returns
returns c = operations_move_waits
