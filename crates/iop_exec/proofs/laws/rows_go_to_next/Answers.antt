use Rattle.iop_exec.proofs.RowKeeps.{rows_go_to_next}
use Rattle.iop_exec.proofs.laws.rows_go_to_next.Goals as goal

pub returns : goal.returns
returns c = rows_go_to_next
