use Rattle.iop_kernel_laws.proofs.PoolRequests.{pool_requests_are_served}
use Rattle.iop_kernel_laws.proofs.laws.pool_requests_are_served.Goals as goal

pub returns : goal.returns
returns c = pool_requests_are_served
