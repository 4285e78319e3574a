use Rattle.std.proofs.Common.{ap, sym, ◌∙◌}
use Rattle.std.specs.Prelude.{is_some}
use Rattle.iop_kernel.specs.Deliveries.{delivers}
use Rattle.iop_kernel.specs.Standing.{core}
use Rattle.iop_kernel.specs.System.{with_irqs}
use Rattle.iop_kernel.proofs.kernel.Kernel.would_deliver.Goals as goal

pub returns : goal.returns
returns g c = λ k h.
    c.would_deliver_with.ensures k h
    ∙ ap (λ irqs. is_some (delivers (with_irqs (core k c.args.cpu.now) irqs))) (sym h.holds.irqs)
