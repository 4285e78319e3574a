use Rattle.iop_kernel_laws.proofs.Makers.{made_as_given}
use Rattle.iop_kernel_laws.proofs.laws.made_as_given.Goals as goal

pub returns : goal.returns
returns c = made_as_given
