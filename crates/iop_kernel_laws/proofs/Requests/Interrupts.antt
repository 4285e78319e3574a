-- What the services of intrman do that register nothing.
use Rattle.std.proofs.Common.{refl}
use Rattle.iop_kernel.specs.Boards.{Board}
use Rattle.iop_kernel_laws.specs.InterruptRequests.{ServesInterrupts, InterruptRequestsAreServed}
use Rattle.iop_kernel.specs.Interrupts.{serves_intrman}
use Rattle.iop_kernel_laws.proofs.Readings.Words.{is_disabled}

serves_interrupts : (b : Board) → ServesInterrupts b
unfolding serves_intrman
serves_interrupts b = record {
  release = refl;
  enable_line = refl;
  disable_line = λ place below is. rw (is, is_disabled b.core.kernel.irqs _ below) refl;
  disable = refl;
  suspend = λ place is. rw is refl;
  enable = refl;
  resume = refl;
  context = refl;
}

pub interrupt_requests_are_served : InterruptRequestsAreServed
interrupt_requests_are_served = serves_interrupts
