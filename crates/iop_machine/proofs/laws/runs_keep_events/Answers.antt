use Rattle.iop_machine.proofs.EventsTaken.{runs_keep_events}
use Rattle.iop_machine.proofs.laws.runs_keep_events.Goals as goal

pub returns : goal.returns
returns c = runs_keep_events
