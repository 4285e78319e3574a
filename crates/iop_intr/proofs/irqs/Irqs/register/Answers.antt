use Rattle.std.proofs.Common.{◌∙◌, sym, arith}
use Rattle.iop_intr.proofs.Calls.{code_of, lines_of, is_found, registers}
use Rattle.iop_intr.proofs.irqs.Irqs.register.Goals as goal

pub returns-then-has : goal.returns-then-has
returns-then-has c =
    let did = is_found c.self.inside c.self.view_is c.args.line (omega arith) c.self.invariant
    (sym c.has.ensures ∙ c.if-has.true) _ in
    record { code = code_of did; lines = lines_of did }

pub returns : goal.returns
returns c =
    let did = registers c.self.inside c.self.view_is c.args.line (omega arith) _ _ c.self.invariant
    c.insert.ensures (sym c.has.ensures ∙ c.if-has.false) in
    record { code = code_of did; lines = lines_of did }
