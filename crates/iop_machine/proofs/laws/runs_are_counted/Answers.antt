use Rattle.iop_machine.proofs.Histories.{runs_are_counted}
use Rattle.iop_machine.proofs.laws.runs_are_counted.Goals as goal

pub returns : goal.returns
returns c = runs_are_counted
