use Rattle.std.proofs.Common.{◌+◌, ◌≤◌, [], ◌∷◌, ◌++◌, drop, length, ap, sym, subst, ◌∙◌, arith}
use Rattle.std.proofs.lemmas.List.{length-append}
use Rattle.iop_machine.specs.Modules.{strings}
use Rattle.iop_machine.specs.declared.arguments.TheConstants.{ARGUMENTS_LEN}
use Rattle.iop_machine.proofs.ArgumentReading.{strings_fit, strings_go_on}
use Rattle.iop_machine.proofs.arguments.append_strings.Goals as goal

pub append_string-requires : goal.append_string-requires
append_string-requires c =
    let whole = c.args.block.now.items ++ strings c.args.words.now in
    let fits : length whole ≤ ARGUMENTS_LEN =
    omega (arith, length-append c.args.block.now.items (strings c.args.words.now), c.requires) in
    let is = c.deref.ensures.value ∙ c.word.view_is in
    subst (λ word. length c.loop-word.block.items + length word + 1 ≤ ARGUMENTS_LEN) (sym is)
    (strings_fit c.args.words.now c.loop-word.word-index c.word-item.result c.loop-word-test.true
    c.word-item.is c.loop-word.block.items whole ARGUMENTS_LEN c.loop-word.invariant fits)

pub loop-word-preserved : goal.loop-word-preserved
loop-word-preserved c =
    let rest = strings (drop (c.loop-word.word-index + 1) c.args.words.now) in
    let is = c.deref.ensures.value ∙ c.word.view_is in
    ap (λ block. block ++ rest) c.append_string.ensures.bytes
    ∙ ap (λ word. c.loop-word.block.items ++ word ++ 0 ∷ [] ++ rest) is
    ∙ strings_go_on c.args.words.now c.loop-word.word-index c.word-item.result
    c.loop-word-test.true c.word-item.is c.loop-word.block.items
    (c.args.block.now.items ++ strings c.args.words.now) c.loop-word.invariant
