use Rattle.std.proofs.Common.{ℕ, Some, ◌+◌, ◌*◌, arith, sym, ap, ◌∙◌}
use Rattle.std.proofs.lemmas.Option.{slice_get_past}
use Rattle.irx_tables.specs.declared.words.TheConstants.{HEADER_BYTES}
use Rattle.iop_linker.specs.Underway.{former_word, former_functions}
use Rattle.iop_linker.proofs.Former.{former_function}
use Rattle.iop_linker.proofs.binding.function.Goals as goal

pub returns-then-index-functions : goal.returns-then-index-functions
returns-then-index-functions c =
    let same = c.from-index.ensures in
    ap Some c.former_word.ensures
    ∙ ap (λ (n : ℕ).
    Some (former_word c.args.text.from c.args.text.len c.args.guest.now
    (c.args.functions.table + HEADER_BYTES + 4 * n))) same
    ∙ sym (former_function c.args.text.from c.args.text.len c.args.guest.now c.args.functions.table
    c.args.index (omega arith))

pub returns-else-index-functions : goal.returns-else-index-functions
returns-else-index-functions c =
    sym (slice_get_past
    (former_functions c.args.text.from c.args.text.len c.args.guest.now c.args.functions.table)
    c.args.index (omega arith))
