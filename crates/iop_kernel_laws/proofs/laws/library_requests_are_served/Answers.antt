use Rattle.iop_kernel_laws.proofs.Requests.Libraries.{library_requests_are_served}
use Rattle.iop_kernel_laws.proofs.laws.library_requests_are_served.Goals as goal

pub returns : goal.returns
returns c = library_requests_are_served
