use Rattle.iop_kernel_laws.proofs.Readings.Statuses.{status_is_read}
use Rattle.iop_kernel_laws.proofs.laws.status_is_read.Goals as goal

pub returns : goal.returns
returns c = status_is_read
