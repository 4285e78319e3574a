use Rattle.iop_intr.proofs.Changing.{calls}
use Rattle.iop_intr.proofs.laws.each_call_changes_one_line.Goals as goal

pub returns : goal.returns
returns c = calls
