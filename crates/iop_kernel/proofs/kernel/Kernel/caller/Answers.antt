use Rattle.std.proofs.Common.{◌∙◌}
use Rattle.iop_kernel.proofs.kernel.Kernel.caller.Goals as goal

pub returns-in-None-clause-id : goal.returns-in-None-clause-id
returns-in-None-clause-id g c = λ k h.
    rw (h.handler ∙ c.in-None.is) (c.running.ensures k.threads h.threads)
