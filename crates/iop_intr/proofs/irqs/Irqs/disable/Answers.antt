use Rattle.std.proofs.Common.{◌∙◌, sym, arith}
use Rattle.iop_intr.proofs.Calls.{code_of, lines_of, is_disabled, disables}
use Rattle.iop_intr.proofs.irqs.Irqs.disable.Goals as goal

pub returns-then-not-has : goal.returns-then-not-has
returns-then-not-has c =
    let did = is_disabled c.self.inside c.self.view_is c.args.line (omega arith)
    (sym c.has.ensures ∙ c.if-not-has.true) in
    record { code = code_of did; lines = lines_of did }

pub returns : goal.returns
returns c =
    let did = disables c.self.inside c.self.view_is c.args.line (omega arith) _
    (sym c.has.ensures ∙ c.if-not-has.false) c.remove.ensures in
    record { code = code_of did; lines = lines_of did }
