use Rattle.iop_machine.proofs.Landing.{runs_keep_stubs}
use Rattle.iop_machine.proofs.laws.runs_keep_stubs.Goals as goal

pub returns : goal.returns
returns c = runs_keep_stubs
