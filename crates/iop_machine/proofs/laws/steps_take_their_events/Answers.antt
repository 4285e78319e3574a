use Rattle.iop_machine.proofs.EventsTaken.{steps_take_their_events}
use Rattle.iop_machine.proofs.laws.steps_take_their_events.Goals as goal

pub returns : goal.returns
returns c = steps_take_their_events
