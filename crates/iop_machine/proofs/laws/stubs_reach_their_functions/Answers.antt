use Rattle.iop_machine.proofs.Stubs.{stubs_reach_their_functions}
use Rattle.iop_machine.proofs.laws.stubs_reach_their_functions.Goals as goal

pub returns : goal.returns
returns c = stubs_reach_their_functions
