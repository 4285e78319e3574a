use Rattle.iop_saved_threads.proofs.Telling.{threads_tell}
use Rattle.iop_saved_threads.proofs.laws.threads_tell_what_was_put.Goals as goal

pub returns : goal.returns
returns c = threads_tell
