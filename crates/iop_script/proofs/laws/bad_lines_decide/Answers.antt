use Rattle.iop_script.proofs.FirstBad.{bad_decides}
use Rattle.iop_script.proofs.laws.bad_lines_decide.Goals as goal

pub returns : goal.returns
returns c = bad_decides
