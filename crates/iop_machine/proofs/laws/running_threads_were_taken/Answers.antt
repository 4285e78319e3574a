use Rattle.iop_machine.proofs.Switching.{running_threads_were_taken}
use Rattle.iop_machine.proofs.laws.running_threads_were_taken.Goals as goal

pub returns : goal.returns
returns c = running_threads_were_taken
