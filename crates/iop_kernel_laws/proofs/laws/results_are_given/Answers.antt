use Rattle.iop_kernel_laws.proofs.Order.Results.{results_are_given}
use Rattle.iop_kernel_laws.proofs.laws.results_are_given.Goals as goal

pub returns : goal.returns
returns c = results_are_given
