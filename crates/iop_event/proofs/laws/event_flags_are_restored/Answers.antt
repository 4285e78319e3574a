use Rattle.iop_event.proofs.Restored.{are_restored}
use Rattle.iop_event.proofs.laws.event_flags_are_restored.Goals as goal

pub returns : goal.returns
returns c = are_restored
