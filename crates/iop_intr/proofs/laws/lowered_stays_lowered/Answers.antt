use Rattle.iop_intr.proofs.Keeping.{lowered-lowering}
use Rattle.iop_intr.proofs.laws.lowered_stays_lowered.Goals as goal

pub returns : goal.returns
returns c = lowered-lowering
