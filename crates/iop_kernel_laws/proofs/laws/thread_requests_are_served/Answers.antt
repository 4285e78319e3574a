use Rattle.iop_kernel_laws.proofs.Requests.Threads.{thread_requests_are_served}
use Rattle.iop_kernel_laws.proofs.laws.thread_requests_are_served.Goals as goal

pub returns : goal.returns
returns c = thread_requests_are_served
