use Rattle.iop_saved_machine.proofs.Lawful.{machines_lawful}
use Rattle.iop_saved_machine.proofs.laws.machines_are_lawful.Goals as goal

pub returns : goal.returns
returns c = machines_lawful
