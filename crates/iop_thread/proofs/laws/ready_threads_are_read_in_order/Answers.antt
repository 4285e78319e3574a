use Rattle.iop_thread.proofs.InOrder.{ready_in_order}
use Rattle.iop_thread.proofs.laws.ready_threads_are_read_in_order.Goals as goal

pub returns : goal.returns
returns c = ready_in_order
