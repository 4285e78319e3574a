use Rattle.iop_kernel_laws.proofs.Keeping.Services.{services_keep}
use Rattle.iop_kernel_laws.proofs.laws.services_keep.Goals as goal

pub returns : goal.returns
returns c = services_keep
