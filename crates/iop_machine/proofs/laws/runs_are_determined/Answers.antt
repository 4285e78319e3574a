use Rattle.iop_machine.proofs.Lasting.{runs_are_determined}
use Rattle.iop_machine.proofs.laws.runs_are_determined.Goals as goal

pub returns : goal.returns
returns c = runs_are_determined
