use Rattle.std.proofs.Common.{◌∙◌}
use Rattle.iop_kernel.proofs.Bodies.Callers.{is_one}
use Rattle.iop_kernel.proofs.kernel.Kernel.is_running.Goals as goal

pub returns : goal.returns
returns g c = λ k h.
    c.eq.ensures ∙ is_one c.args.id (c.running.ensures k.threads h.threads)
