use Rattle.iop_machine.proofs.AreaReading.{kernel_area_is_read}
use Rattle.iop_machine.proofs.laws.kernel_area_is_read.Goals as goal

pub returns : goal.returns
returns c = kernel_area_is_read
