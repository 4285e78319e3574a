use Rattle.iop_kernel_laws.proofs.Switching.{dispatches_alone_switch}
use Rattle.iop_kernel_laws.proofs.laws.dispatches_alone_switch.Goals as goal

pub returns : goal.returns
returns c = dispatches_alone_switch
