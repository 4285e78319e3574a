use Rattle.iop_kernel_laws.proofs.Readings.Statuses.{fpl_status_is_read}
use Rattle.iop_kernel_laws.proofs.laws.fixed_pool_status_is_read.Goals as goal

pub returns : goal.returns
returns c = fpl_status_is_read
