use Rattle.iop_thread.proofs.ReadingInOrder.{read_in_order}
use Rattle.iop_thread.proofs.laws.threads_are_read_in_order.Goals as goal

pub returns : goal.returns
returns c = read_in_order
