use Rattle.iop_machine.proofs.Lasting.{runs_end}
use Rattle.iop_machine.proofs.laws.runs_end.Goals as goal

pub returns : goal.returns
returns c = runs_end
