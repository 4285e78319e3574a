use Rattle.std.proofs.Common.{ap, sym, ◌∙◌}
use Rattle.iop_saved_kernel.specs.Executing.{cause_in}
use Rattle.iop_saved_kernel.proofs.kernel.head_of.Goals as goal

pub returns : goal.returns
returns g c k h =
    λ i. record {
      clock = sym h.clock i;
      interrupts = sym h.interrupts i;
      dispatching = sym h.dispatching i;
      running = c.running.ensures k.threads h.threads i;
      cause = (c.cause_in.ensures ∙ ap cause_in (sym h.handler)) i;
    }
