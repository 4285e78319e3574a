use Rattle.std.proofs.Common.{ap, sym, ◌∙◌}
use Rattle.iop_intr.specs.InterruptLines.{line_of, delivering}
use Rattle.iop_kernel.specs.Standing.{core}
use Rattle.iop_kernel.proofs.Bodies.Standing.{holds_irqs}
use Rattle.iop_kernel.proofs.Order.DeliveryCalls.{line_delivered}
use Rattle.iop_kernel.proofs.kernel.Kernel.deliver_line.Goals as goal

pub returns : goal.returns
returns g c = λ k h.
    let line = c.args.line in
    let cpu = c.args.cpu.now in
    let same = h.holds.irqs in
    let handler = c.deliver-handler.result in
    let its = ap (λ irqs. (line_of irqs line).handler) same ∙ c.deliver-handler.ensures.handler in
    let left = ap (λ irqs. delivering irqs line) same ∙ sym c.deliver-handler.ensures.lines in
    let lowered = holds_irqs g.R.Ready.stands h.holds left in
    line_delivered g.R.Ready.stands (core k cpu) h.placed c.begin_handler.new.self
    c.begin_handler.new.cpu (g.L.Lines.output c.args.lines.now) (g.L.Lines.output c.line.new.self)
    line handler its
    (c.begin_handler.ensures.kernel (record k { irqs = delivering k.irqs line }) lowered)
    c.begin_handler.ensures.processor (rw (h.holds.clock, sym c.from.ensures) c.line.ensures)
