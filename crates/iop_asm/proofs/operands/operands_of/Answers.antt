use Rattle.std.proofs.Common.{◌≡◌, ◌∷◌, false, arith}
use Rattle.std.proofs.lemmas.Grind.{common_steps}
use Rattle.iop_asm.specs.Operands.{is_place}
use Rattle.iop_asm.specs.Values.{arguments}
use Rattle.iop_asm.proofs.OperandLemmas.{read_on_word}
use Rattle.iop_asm.proofs.operands.operands_of.Goals as goal

pub loop-index-preserved : goal.loop-index-preserved
loop-index-preserved c =
    let read = arguments c.loop-index.read.items in
    let operand = c.in-Some.operand.now in
    let left = c.in-Some.rest.now in
    let other : is_place (operand ∷ left) ≡ false = grind arith in
    let word =
    read_on_word read c.args.words.now c.loop-index.index c.loop-index-test.true operand left
    other _ c.in-Some-operand_of.ensures in
    grind (arith, common_steps)
