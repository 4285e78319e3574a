use Rattle.iop_kernel_laws.proofs.Readings.Times.{system_time_is_read}
use Rattle.iop_kernel_laws.proofs.laws.system_time_is_read.Goals as goal

pub returns : goal.returns
returns c = system_time_is_read
