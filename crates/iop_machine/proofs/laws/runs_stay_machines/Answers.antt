use Rattle.iop_machine.proofs.KeepingMachine.{steps_keep_machine}
use Rattle.iop_machine.proofs.laws.runs_stay_machines.Goals as goal

pub returns : goal.returns
returns c = steps_keep_machine
