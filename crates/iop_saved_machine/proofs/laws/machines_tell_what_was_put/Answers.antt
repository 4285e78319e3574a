use Rattle.iop_saved_machine.proofs.Telling.{machines_tell}
use Rattle.iop_saved_machine.proofs.laws.machines_tell_what_was_put.Goals as goal

pub returns : goal.returns
returns c = machines_tell c.cores_tell_what_was_put.ensures
