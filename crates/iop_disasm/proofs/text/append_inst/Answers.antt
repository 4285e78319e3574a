use Rattle.std.proofs.Common.{sym, arith}
use Rattle.iop_disasm.proofs.Widths.{written_fits}
use Rattle.iop_disasm.proofs.text.append_inst.Goals as goal

pub returns-in-Some-clause-short : goal.returns-in-Some-clause-short
returns-in-Some-clause-short c =
    let fit = written_fits c.args.word _ (sym c.in-Some.ensures.written) in
    let name = c.append.ensures.long in
    let space = c.append-in-Some.ensures.long in
    omega (arith, fit, c.in-Some.ensures.short, name, space, c.append_operands.ensures.short)
