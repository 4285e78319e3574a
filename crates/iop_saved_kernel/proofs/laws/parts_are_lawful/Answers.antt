use Rattle.iop_saved_kernel.proofs.Lawful.{parts_are_lawful}
use Rattle.iop_saved_kernel.proofs.laws.parts_are_lawful.Goals as goal

pub returns : goal.returns
returns c = parts_are_lawful
