use Rattle.iop_kernel_laws.proofs.PoolRequests.{pools_are_made}
use Rattle.iop_kernel_laws.proofs.laws.pools_are_made.Goals as goal

pub returns : goal.returns
returns c = pools_are_made
