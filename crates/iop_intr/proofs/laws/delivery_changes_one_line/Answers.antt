use Rattle.iop_intr.proofs.Keeping.{delivering-lines}
use Rattle.iop_intr.proofs.laws.delivery_changes_one_line.Goals as goal

pub returns : goal.returns
returns c = delivering-lines
