use Rattle.iop_resumable.proofs.Steps.{steps_stay_regular}
use Rattle.iop_resumable.proofs.laws.steps_stay_regular.Goals as goal

pub returns : goal.returns
returns c = steps_stay_regular
