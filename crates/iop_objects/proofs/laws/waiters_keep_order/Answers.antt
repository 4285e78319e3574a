use Rattle.iop_objects.proofs.Ordered.{keep_order}
use Rattle.iop_objects.proofs.laws.waiters_keep_order.Goals as goal

pub returns : goal.returns
returns g c = keep_order
