use Rattle.iop_objects.proofs.Restored.{are_restored}
use Rattle.iop_objects.proofs.laws.objects_are_restored.Goals as goal

pub returns : goal.returns
returns g c = are_restored
