use Rattle.iop_resumable.proofs.Regular.{beginning_is_regular}
use Rattle.iop_resumable.proofs.laws.beginning_is_regular.Goals as goal

pub returns : goal.returns
returns c = beginning_is_regular
