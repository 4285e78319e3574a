use Rattle.std.proofs.Common.{◌≡◌, subst, [], ◌∷◌}
use Rattle.iop_asm.specs.declared.section.Section.TheVariants.{Text}
use Rattle.iop_asm.specs.CellFields.{cells}
use Rattle.iop_asm.specs.DraftFields.{IsDraft}
use Rattle.iop_asm.specs.Drafts.{with_label, filled, stub_cells}
use Rattle.iop_asm.proofs.draft.Draft.put_stub.Goals as goal

pub returns : goal.returns
returns c = λ d h unplaced.
    let labelled = with_label d c.args.label.now in
    let words : cells (c.plain.result ∷ c.plain-2.result ∷ []) ≡ stub_cells c.args.index = cc in
    subst (λ l. IsDraft c.fill.new.self (filled labelled Text l)) words
    (c.in_ok-fill.ensures labelled (c.in_ok-define.ensures d h unplaced))
