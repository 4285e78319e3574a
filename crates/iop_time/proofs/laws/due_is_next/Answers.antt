use Rattle.iop_time.proofs.Nexts.{due_is_next}
use Rattle.iop_time.proofs.laws.due_is_next.Goals as goal

pub returns : goal.returns
returns c = due_is_next
