use Rattle.iop_machine.proofs.Strict.{runs_are_awake}
use Rattle.iop_machine.proofs.laws.runs_are_awake.Goals as goal

pub returns : goal.returns
returns c = runs_are_awake
