use Rattle.iop_thread.proofs.Woken.{waking_ends_one_wait}
use Rattle.iop_thread.proofs.laws.waking_ends_one_wait.Goals as goal

pub returns : goal.returns
returns c = waking_ends_one_wait
