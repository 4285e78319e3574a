use Rattle.iop_machine.proofs.AreaLanding.{booting_keeps_kernel}
use Rattle.iop_machine.proofs.laws.booting_keeps_kernel.Goals as goal

pub returns : goal.returns
returns c = booting_keeps_kernel
