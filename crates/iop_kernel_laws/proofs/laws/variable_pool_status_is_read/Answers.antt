use Rattle.iop_kernel_laws.proofs.Readings.Statuses.{vpl_status_is_read}
use Rattle.iop_kernel_laws.proofs.laws.variable_pool_status_is_read.Goals as goal

pub returns : goal.returns
returns c = vpl_status_is_read
