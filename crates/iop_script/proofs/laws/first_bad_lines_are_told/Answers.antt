use Rattle.iop_script.proofs.FirstBad.{first_bad_told}
use Rattle.iop_script.proofs.laws.first_bad_lines_are_told.Goals as goal

pub returns : goal.returns
returns c = first_bad_told
