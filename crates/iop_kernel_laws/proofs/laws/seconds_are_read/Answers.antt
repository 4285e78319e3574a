use Rattle.iop_kernel_laws.proofs.Readings.Times.{seconds_are_read}
use Rattle.iop_kernel_laws.proofs.laws.seconds_are_read.Goals as goal

pub returns : goal.returns
returns c = seconds_are_read
