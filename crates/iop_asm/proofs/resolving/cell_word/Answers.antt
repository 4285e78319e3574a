use Rattle.std.proofs.Common.{◌≡◌, ◌+◌, ap, sym, ◌∙◌}
use Rattle.std.specs.Option.{unwrap_or}
use Rattle.iop_base.specs.Numbers.{wrapped}
use Rattle.iop_asm.specs.Assembly.{field_by, label_address, referred_word}
use Rattle.iop_asm.proofs.NumberedCellLemmas.{cell_in-named}
use Rattle.iop_asm.proofs.resolving.cell_word.Goals as goal

pub returns-in-Some : goal.returns-in-Some
returns-in-Some c = λ d cell h is.
    let r = c.in-Some.reference in
    let named = cell_in-named c.args.draft.now.labels c.args.cell r cell c.in-Some.is is in
    let address = c.label_address.ensures d named.name h named.is_name in
    let field : c.field_by.result
    ≡ field_by r.kind c.args.site (unwrap_or (label_address d named.name) 0) = cc in
    ap (λ w. wrapped (c.args.cell.word + w)) field
    ∙ sym (ap (λ w. referred_word d c.args.site w cell.reference) named.word
    ∙ ap (referred_word d c.args.site c.args.cell.word) named.reference)
