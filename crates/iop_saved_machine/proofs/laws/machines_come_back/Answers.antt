use Rattle.iop_saved_machine.proofs.ComingBack.{machines_back}
use Rattle.iop_saved_machine.proofs.laws.machines_come_back.Goals as goal

pub returns : goal.returns
returns c = machines_back
