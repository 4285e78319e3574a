use Rattle.std.proofs.Common.{length, ap, arith}
use Rattle.std.specs.Prelude.{decimal}
use Rattle.std.proofs.lemmas.List.{length-append}
use Rattle.std.proofs.lemmas.Fmt.{length-decimal-le}
use Rattle.iop_disasm.proofs.text.append_operand.Goals as goal

pub returns-in-Code-clause-short : goal.returns-in-Code-clause-short
returns-in-Code-clause-short c =
    let number = c.number-in-Code.result in
    let below = c.number-in-Code.ensures.below in
    let digits =
    length-decimal-le 7 number (omega arith) (omega (arith, below)) (omega (arith, below)) in
    let text = ap length c.append_number-in-Code.ensures.bytes in
    omega (arith, digits, text, length-append c.args.text.now.items (decimal number))
