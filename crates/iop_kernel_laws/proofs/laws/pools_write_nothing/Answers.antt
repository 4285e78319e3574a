use Rattle.iop_kernel_laws.proofs.PoolRequests.{pools_write_nothing}
use Rattle.iop_kernel_laws.proofs.laws.pools_write_nothing.Goals as goal

pub returns : goal.returns
returns c = pools_write_nothing
