use Rattle.iop_thread.proofs.Placed.{operations_keep_places}
use Rattle.iop_thread.proofs.laws.operations_keep_places.Goals as goal

pub returns : goal.returns
returns c = operations_keep_places
