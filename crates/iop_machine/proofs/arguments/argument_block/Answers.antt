use Rattle.std.proofs.Common.{◌∷◌, arith}
use Rattle.std.proofs.lemmas.List.{length-append}
use Rattle.iop_machine.specs.Modules.{strings}
use Rattle.iop_machine.proofs.arguments.argument_block.Goals as goal

pub append_string-requires : goal.append_string-requires
append_string-requires c =
    let long = length-append c.args.name.now (0 ∷ strings c.args.words.now) in
    grind (arith, long)

pub append_strings-requires : goal.append_strings-requires
append_strings-requires c =
    let long = length-append c.args.name.now (0 ∷ strings c.args.words.now) in
    grind (arith, long)

pub returns-clause-short : goal.returns-clause-short
returns-clause-short c =
    let long = length-append c.args.name.now (0 ∷ strings c.args.words.now) in
    grind (arith, long)
