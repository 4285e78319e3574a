use Rattle.iop_machine.proofs.Landing.{runs_tell_stubs}
use Rattle.iop_machine.proofs.laws.runs_tell_stubs.Goals as goal

pub returns : goal.returns
returns c = runs_tell_stubs
