use Rattle.iop_machine.proofs.KeepingMachine.{begins_as_machine}
use Rattle.iop_machine.proofs.laws.runs_begin_as_machines.Goals as goal

pub returns : goal.returns
returns c = begins_as_machine
