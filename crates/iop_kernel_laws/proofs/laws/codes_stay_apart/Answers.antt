use Rattle.iop_kernel_laws.proofs.Codes.Apart.{codes_stay_apart}
use Rattle.iop_kernel_laws.proofs.laws.codes_stay_apart.Goals as goal

pub returns : goal.returns
returns c = codes_stay_apart
