use Rattle.iop_machine.proofs.Stubs.{stubs_are_followed}
use Rattle.iop_machine.proofs.laws.stubs_are_followed.Goals as goal

pub returns : goal.returns
returns c = stubs_are_followed
