use Rattle.iop_kernel_laws.proofs.Readings.Times.{ticks_are_read}
use Rattle.iop_kernel_laws.proofs.laws.ticks_are_read.Goals as goal

pub returns : goal.returns
returns c = ticks_are_read
