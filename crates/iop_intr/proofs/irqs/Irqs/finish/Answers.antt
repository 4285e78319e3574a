use Rattle.std.proofs.Common.{◌∙◌, sym, arith}
use Rattle.iop_intr.proofs.Calls.{finishes_disabled, finishes_enabled, finishes_without}
use Rattle.iop_intr.proofs.irqs.Irqs.finish.Goals as goal

pub returns-then-value-eq0 : goal.returns-then-value-eq0
returns-then-value-eq0 c =
    finishes_disabled c.self.inside c.self.view_is c.args.line (omega arith) _ _ c.if-value-eq0.true
    c.remove.ensures

pub returns-then-has : goal.returns-then-has
returns-then-has c =
    finishes_enabled c.self.inside c.self.view_is c.args.line (omega arith) c.self.invariant _ _
    c.if-value-eq0.false (sym c.has.ensures ∙ c.if-has.true) c.insert.ensures

pub returns-else-has : goal.returns-else-has
returns-else-has c =
    finishes_without c.self.inside c.self.view_is c.args.line (omega arith) _ c.if-value-eq0.false
    (sym c.has.ensures ∙ c.if-has.false)
