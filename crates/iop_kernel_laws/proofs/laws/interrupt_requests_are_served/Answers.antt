use Rattle.iop_kernel_laws.proofs.Requests.Interrupts.{interrupt_requests_are_served}
use Rattle.iop_kernel_laws.proofs.laws.interrupt_requests_are_served.Goals as goal

pub returns : goal.returns
returns c = interrupt_requests_are_served
