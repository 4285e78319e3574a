use Rattle.iop_snapshot.proofs.Laying.{begins_with_count}
use Rattle.iop_snapshot.proofs.laws.lists_begin_with_count.Goals as goal

pub returns : goal.returns
returns g c = begins_with_count
