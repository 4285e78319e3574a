use Rattle.iop_kernel_laws.proofs.WaitsEnd.Services.{waits_end_so}
use Rattle.iop_kernel_laws.proofs.laws.waits_end_so.Goals as goal

pub returns : goal.returns
returns c = waits_end_so
