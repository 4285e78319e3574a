use Rattle.iop_sema.proofs.Counting.{semaphore_counts}
use Rattle.iop_sema.proofs.Making.{semaphore_made}
use Rattle.iop_sema.proofs.laws.semaphores_count.Goals as goal

pub returns : goal.returns
returns c = record { live = semaphore_counts; made = semaphore_made }
