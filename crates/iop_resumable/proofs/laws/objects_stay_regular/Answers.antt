use Rattle.iop_resumable.proofs.Objects.{objects_stay_regular}
use Rattle.iop_resumable.proofs.laws.objects_stay_regular.Goals as goal

pub returns : goal.returns
returns c = objects_stay_regular
