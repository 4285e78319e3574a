use Rattle.std.proofs.Common.{◌≡◌, ℕ, true, false, List, Option, is_some, set, sym, ap, subst, ◌∙◌, arith}
use Rattle.iop_base.specs.Bits.{ChangesOnly}
use Rattle.iop_intr.specs.Laws.{line_with}
use Rattle.iop_intr.specs.declared.handler.Handler.{Handler}
use Rattle.iop_intr.specs.declared.irq_line.IrqLine.{IrqLine}
use Rattle.iop_intr.proofs.Calls.{puts, puts_without}
use Rattle.iop_intr.proofs.irqs.Irqs.put_line.Goals as goal

-- the lines where the one that is put has this handler
abbrev given : List IrqLine → ℕ → IrqLine → Option Handler → List IrqLine
given lines n line handler = set lines n (line_with line.raised line.enabled handler)

pub returns-in-Some : goal.returns-in-Some
returns-in-Some c =
    let is : c.is_some.result ≡ true = c.is_some.ensures ∙ ap is_some c.in-Some.is in
    puts c.self.inside c.self.view_is c.args.number (omega arith) _ c.in-Some.handler
    c.self.invariant
    (subst (ChangesOnly c.self.inside.handled c.put-3.new.self c.args.number) is c.put-3.ensures)
    _ _ _ _ c.put.ensures c.put-2.ensures
    ∙ ap (given c.args.self.now c.args.number c.args.line) (sym c.in-Some.is)

pub returns-in_default : goal.returns-in_default
returns-in_default c =
    let is : c.is_some.result ≡ false = c.is_some.ensures ∙ ap is_some c.in_default.is in
    puts_without c.self.inside c.self.view_is c.args.number (omega arith) _ _ _ _ _ c.put.ensures
    c.put-2.ensures
    (subst (ChangesOnly c.self.inside.handled c.put-3.new.self c.args.number) is c.put-3.ensures)
    ∙ ap (given c.args.self.now c.args.number c.args.line) (sym c.in_default.is)
