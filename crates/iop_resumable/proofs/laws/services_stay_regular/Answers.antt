use Rattle.iop_resumable.proofs.Regular.{services_stay_regular}
use Rattle.iop_resumable.proofs.laws.services_stay_regular.Goals as goal

pub returns : goal.returns
returns c = services_stay_regular
