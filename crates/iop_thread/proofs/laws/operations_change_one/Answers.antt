use Rattle.iop_thread.proofs.Changes.{moves_one}
use Rattle.iop_thread.proofs.laws.operations_change_one.Goals as goal

pub returns : goal.returns
returns c = moves_one
