use Rattle.std.proofs.Common.{◌∙◌}
use Rattle.iop_base.proofs.Giving.{failed_gives}
use Rattle.iop_trace.proofs.Sending.{line_gives}
use Rattle.iop_trace.proofs.two_sinks.OutLines.line.Goals as goal

pub returns-then-not-self : goal.returns-then-not-self
returns-then-not-self g c =
    let bytes = c.deref.ensures.0 ∙ c.line_text-text.ensures in
    line_gives _ _ _ _ c.if-not-self.true _ _ _ _ (rw bytes at c.send.ensures)

pub returns-else-not-self : goal.returns-else-not-self
returns-else-not-self g c = failed_gives _ _ c.if-not-self.false
