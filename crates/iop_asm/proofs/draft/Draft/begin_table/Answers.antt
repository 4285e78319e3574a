use Rattle.std.proofs.Common.{◌≡◌, ◌*◌, ◌/◌, ◌++◌, ◌∙◌, ap, sym, subst, arith, rules, length, map, Some, [], ◌∷◌}
use Rattle.std.specs.List.{range_with_len}
use Rattle.iop_base.specs.Numbers.{word_at}
use Rattle.iop_asm.specs.Cells.{plain_cell}
use Rattle.iop_asm.specs.Statements.{byte_cells}
use Rattle.iop_asm.specs.declared.section.Section.TheVariants.{Text}
use Rattle.iop_asm.specs.CellFields.{cells}
use Rattle.iop_asm.specs.DraftFields.{IsDraft}
use Rattle.iop_asm.specs.Drafts.{filled, magic, header_cells}
use Rattle.iop_asm.proofs.DraftLemmas.{IsDraft-table}
use Rattle.iop_asm.proofs.draft.Draft.begin_table.Goals as goal

pub returns : goal.returns
returns c = λ d h.
    let table = c.args.table in
    let made =
    cells (c.plain.result ∷ c.plain-2.result ∷ c.plain-3.result ∷ c.plain-4.result ∷ c.plain-5.result ∷ []) in
    let name = c.args.name in
    let size : length name ≡ 8 = search (rules, arith) in
    let two : plain_cell (word_at name 0) ∷ plain_cell (word_at name 4) ∷ [] ≡ byte_cells name =
    sym (ap (λ n. map (λ k. plain_cell (word_at name (4 * k))) (range_with_len 0 (n / 4))) size) in
    let numbers = map plain_cell (magic table ∷ 0 ∷ c.args.version ∷ []) in
    let first : made ≡ numbers ++ (plain_cell (word_at name 0) ∷ plain_cell (word_at name 4) ∷ []) = cc in
    let words : made ≡ header_cells (magic table) name c.args.version =
    first ∙ ap (λ l. numbers ++ l) two in
    subst (λ l. IsDraft (record c.fill.new.self { table = Some table })
    (record (filled d Text l) { table = Some table })) words
    (IsDraft-table c.fill.new.self (filled d Text made) (c.in_ok-fill.ensures d h) (Some table))
