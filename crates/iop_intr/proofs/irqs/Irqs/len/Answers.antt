use Rattle.std.proofs.Common.{◌≡◌, List, length, sym, subst}
use Rattle.iop_intr.specs.declared.irq_line.IrqLine.{IrqLine}
use Rattle.iop_intr.specs.declared.irqs.TheConstants.{IRQ_LINES}
use Rattle.iop_intr.proofs.Views.{length-lines_in}
use Rattle.iop_intr.proofs.irqs.Irqs.len.Goals as goal

pub returns-clause-len : goal.returns-clause-len
returns-clause-len c =
    subst (λ (lines : List IrqLine). IRQ_LINES ≡ length lines) c.self.view_is
    (sym (length-lines_in c.self.inside))
