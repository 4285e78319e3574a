use Rattle.iop_kernel_laws.proofs.Readings.Statuses.{flag_status_is_read}
use Rattle.iop_kernel_laws.proofs.laws.flag_status_is_read.Goals as goal

pub returns : goal.returns
returns c = flag_status_is_read
