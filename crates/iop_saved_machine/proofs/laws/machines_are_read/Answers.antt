use Rattle.iop_saved_machine.proofs.ReadAgain.{machines_read}
use Rattle.iop_saved_machine.proofs.laws.machines_are_read.Goals as goal

pub returns : goal.returns
returns c = machines_read c.cores_are_read.ensures
