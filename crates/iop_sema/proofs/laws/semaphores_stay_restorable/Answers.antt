use Rattle.iop_sema.proofs.StayRestorable.{stay_restorable}
use Rattle.iop_sema.proofs.laws.semaphores_stay_restorable.Goals as goal

pub returns : goal.returns
returns c = stay_restorable
