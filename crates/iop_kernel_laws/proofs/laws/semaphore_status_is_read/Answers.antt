use Rattle.iop_kernel_laws.proofs.Readings.Statuses.{semaphore_status_is_read}
use Rattle.iop_kernel_laws.proofs.laws.semaphore_status_is_read.Goals as goal

pub returns : goal.returns
returns c = semaphore_status_is_read
