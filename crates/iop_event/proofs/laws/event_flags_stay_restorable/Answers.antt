use Rattle.iop_event.proofs.StayRestorable.{stay_restorable}
use Rattle.iop_event.proofs.laws.event_flags_stay_restorable.Goals as goal

pub returns : goal.returns
returns c = stay_restorable
