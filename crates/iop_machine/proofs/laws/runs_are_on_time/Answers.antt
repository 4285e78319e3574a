use Rattle.iop_machine.proofs.Strict.{runs_are_on_time}
use Rattle.iop_machine.proofs.laws.runs_are_on_time.Goals as goal

pub returns : goal.returns
returns c = runs_are_on_time
