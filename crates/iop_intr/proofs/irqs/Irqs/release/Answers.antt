use Rattle.std.proofs.Common.{◌∙◌, sym, arith}
use Rattle.iop_intr.proofs.Calls.{code_of, lines_of, is_not_found, releases}
use Rattle.iop_intr.proofs.irqs.Irqs.release.Goals as goal

pub returns-then-not-has : goal.returns-then-not-has
returns-then-not-has c =
    let did = is_not_found c.self.inside c.self.view_is c.args.line (omega arith)
    (sym c.has.ensures ∙ c.if-not-has.true) in
    record { code = code_of did; lines = lines_of did }

pub returns : goal.returns
returns c =
    let did = releases c.self.inside c.self.view_is c.args.line (omega arith) c.self.invariant
    (sym c.has.ensures ∙ c.if-not-has.false) _ _ c.remove.ensures c.remove-2.ensures in
    record { code = code_of did; lines = lines_of did }
