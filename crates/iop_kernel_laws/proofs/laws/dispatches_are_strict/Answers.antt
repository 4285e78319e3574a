use Rattle.iop_kernel.proofs.Order.Strict.{dispatches_are_strict}
use Rattle.iop_kernel_laws.proofs.laws.dispatches_are_strict.Goals as goal

pub returns : goal.returns
returns c = dispatches_are_strict
