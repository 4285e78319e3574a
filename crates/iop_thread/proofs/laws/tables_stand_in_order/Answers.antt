use Rattle.iop_thread.proofs.InOrder.{tables_in_order}
use Rattle.iop_thread.proofs.laws.tables_stand_in_order.Goals as goal

pub returns : goal.returns
returns c = tables_in_order
