use Rattle.iop_exec.proofs.RowKeeps.{rows_stay_steady}
use Rattle.iop_exec.proofs.laws.rows_stay_steady.Goals as goal

pub returns : goal.returns
returns c = rows_stay_steady
