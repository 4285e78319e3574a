use Rattle.iop_machine.proofs.Switching.{runs_switch_by_dispatch}
use Rattle.iop_machine.proofs.laws.runs_switch_by_dispatch.Goals as goal

pub returns : goal.returns
returns c = runs_switch_by_dispatch
