use Rattle.iop_objects.proofs.StayRestorable.{stay_restorable}
use Rattle.iop_objects.proofs.laws.objects_stay_restorable.Goals as goal

pub returns : goal.returns
returns g c = stay_restorable
