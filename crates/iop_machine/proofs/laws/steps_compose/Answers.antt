use Rattle.iop_machine.proofs.Composing.{steps_compose}
use Rattle.iop_machine.proofs.laws.steps_compose.Goals as goal

pub returns : goal.returns
returns c = steps_compose
