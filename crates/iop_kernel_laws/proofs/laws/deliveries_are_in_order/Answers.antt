use Rattle.iop_kernel_laws.proofs.Order.First.{deliveries_are_in_order}
use Rattle.iop_kernel_laws.proofs.laws.deliveries_are_in_order.Goals as goal

pub returns : goal.returns
returns c = deliveries_are_in_order
