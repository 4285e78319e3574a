use Rattle.std.proofs.Common.{◌≡◌, ◌∙◌, List, length, ap, subst, arith}
use Rattle.iop_intr.specs.Laws.{line_with}
use Rattle.iop_intr.specs.declared.irq_line.IrqLine.{IrqLine}
use Rattle.iop_intr.specs.declared.irqs.TheConstants.{IRQ_LINES}
use Rattle.iop_intr.proofs.Calls.{tells}
use Rattle.iop_intr.proofs.Views.{length-lines_in}
use Rattle.iop_intr.proofs.irqs.Irqs.line.Goals as goal

pub returns-clause-line : goal.returns-clause-line
returns-clause-line c =
    ap (line_with c.has.result c.has-2.result) c.then_some.ensures
    ∙ tells c.self.inside c.self.view_is c.args.number (omega arith) c.self.invariant _ _ _ _
    c.has.ensures c.has-2.ensures c.has-3.ensures

pub returns-clause-all : goal.returns-clause-all
returns-clause-all c =
    subst (λ (lines : List IrqLine). length lines ≡ IRQ_LINES) c.self.view_is
    (length-lines_in c.self.inside)
