use Rattle.iop_machine.proofs.Lasting.{runs_compose}
use Rattle.iop_machine.proofs.laws.runs_compose.Goals as goal

pub returns : goal.returns
returns c = runs_compose
