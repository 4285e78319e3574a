use Rattle.iop_machine.proofs.EventsChange.{events_change_their_lines}
use Rattle.iop_machine.proofs.laws.events_change_their_lines.Goals as goal

pub returns : goal.returns
returns c = events_change_their_lines
