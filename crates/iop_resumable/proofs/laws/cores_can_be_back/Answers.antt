use Rattle.iop_resumable.proofs.Regular.{cores_can_be_back}
use Rattle.iop_resumable.proofs.laws.cores_can_be_back.Goals as goal

pub returns : goal.returns
returns c = cores_can_be_back
