use Rattle.iop_resumable.proofs.MadeKernels.{kernels_stay_made}
use Rattle.iop_resumable.proofs.laws.kernels_stay_made.Goals as goal

pub returns : goal.returns
returns c = kernels_stay_made
