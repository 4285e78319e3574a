use Rattle.iop_machine.proofs.Lasting.{over_stays}
use Rattle.iop_machine.proofs.laws.over_stays.Goals as goal

pub returns : goal.returns
returns c = over_stays
