use Rattle.iop_mbx.proofs.StayRestorable.{stay_restorable}
use Rattle.iop_mbx.proofs.laws.mailboxes_stay_restorable.Goals as goal

pub returns : goal.returns
returns c = stay_restorable
