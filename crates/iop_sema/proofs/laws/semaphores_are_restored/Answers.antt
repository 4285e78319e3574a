use Rattle.iop_sema.proofs.Restored.{are_restored}
use Rattle.iop_sema.proofs.laws.semaphores_are_restored.Goals as goal

pub returns : goal.returns
returns c = are_restored
