use Rattle.iop_kernel_laws.proofs.Requests.Objects.{object_requests_are_served}
use Rattle.iop_kernel_laws.proofs.laws.object_requests_are_served.Goals as goal

pub returns : goal.returns
returns c = object_requests_are_served
