use Rattle.iop_machine.proofs.Forgetting.{nobodys_forgotten}
use Rattle.iop_machine.proofs.laws.registers_are_forgotten.Goals as goal

pub returns : goal.returns
returns c = nobodys_forgotten
