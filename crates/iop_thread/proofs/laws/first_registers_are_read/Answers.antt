use Rattle.iop_thread.proofs.FirstRegisters.{first_registers_are_read}
use Rattle.iop_thread.proofs.laws.first_registers_are_read.Goals as goal

pub returns : goal.returns
returns c = first_registers_are_read
