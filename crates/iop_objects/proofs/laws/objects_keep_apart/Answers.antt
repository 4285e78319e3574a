use Rattle.iop_objects.proofs.KeptApart.{keep_apart}
use Rattle.iop_objects.proofs.laws.objects_keep_apart.Goals as goal

pub returns : goal.returns
returns g c = keep_apart
