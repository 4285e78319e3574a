use Rattle.iop_stubs.proofs.PuttingBack.{stubs_come_back}
use Rattle.iop_stubs.proofs.laws.stubs_come_back.Goals as goal

pub returns : goal.returns
returns c = stubs_come_back
