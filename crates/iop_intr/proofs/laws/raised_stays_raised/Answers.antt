use Rattle.iop_intr.proofs.Keeping.{raised-raising}
use Rattle.iop_intr.proofs.laws.raised_stays_raised.Goals as goal

pub returns : goal.returns
returns c = raised-raising
