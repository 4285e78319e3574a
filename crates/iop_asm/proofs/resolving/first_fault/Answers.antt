use Rattle.std.proofs.Common.{◌≡◌, None, ap, sym, subst, ◌∙◌, length, fold}
use Rattle.std.specs.Option.{option_to_list, option_and_then}
use Rattle.iop_asm.specs.Assembly.{first_of, cells_faults, entry_fault, open_fault}
use Rattle.iop_asm.specs.NumberedCells.{AreCells}
use Rattle.iop_asm.proofs.FoldLemmas.{fold-five}
use Rattle.iop_asm.proofs.SectionLemmas.{AreCells-length}
use Rattle.iop_asm.proofs.resolving.first_fault.Goals as goal

pub returns : goal.returns
returns c = λ d h.
    let held = c.args.draft.now in
    let in_text = cells_faults d 0 d.text in
    let in_data = cells_faults d (length d.text) d.«data» in
    let at_entry = option_to_list (option_and_then (entry_fault d) d.entry) in
    let at_end = option_to_list (open_fault d.table d.line) in
    let words : c.len.result ≡ length d.text =
    c.len.ensures ∙ sym c.deref.ensures.len ∙ ap length c.deref.ensures.value
    ∙ AreCells-length held.labels held.text.items d.text h.text in
    let first : c.first_cell_fault-in_text.result ≡ fold first_of (fold first_of None d.faults) in_text =
    c.first_cell_fault-in_text.ensures d d.text h
    (subst (λ l. AreCells held.labels l d.text) (sym c.deref.ensures.value) h.text)
    ∙ ap (λ found. fold first_of found in_text) h.fault in
    let second : c.first_cell_fault-in_data.result ≡ fold first_of c.first_cell_fault-in_text.result in_data =
    c.first_cell_fault-in_data.ensures d d.«data» h
    (subst (λ l. AreCells held.labels l d.«data») (sym c.deref-2.ensures.value) h.«data»)
    ∙ ap (λ n. fold first_of c.first_cell_fault-in_text.result (cells_faults d n d.«data»)) words in
    let third : c.first_of_both-at_entry.result ≡ fold first_of c.first_cell_fault-in_data.result at_entry =
    c.first_of_both-at_entry.ensures
    ∙ ap (λ o. fold first_of c.first_cell_fault-in_data.result (option_to_list o)) (c.entry_fault.ensures d h) in
    let at_last : c.open_fault.result ≡ open_fault d.table d.line =
    c.open_fault.ensures ∙ ap (λ table. open_fault table held.line) h.table
    ∙ ap (λ line. open_fault d.table line) h.line in
    let fourth : c.first_of_both.result ≡ fold first_of c.first_of_both-at_entry.result at_end =
    c.first_of_both.ensures
    ∙ ap (λ o. fold first_of c.first_of_both-at_entry.result (option_to_list o)) at_last in
    fourth ∙ ap (λ x. fold first_of x at_end) (third ∙ ap (λ x. fold first_of x at_entry)
    (second ∙ ap (λ x. fold first_of x in_data) first))
    ∙ sym (fold-five first_of None d.faults in_text in_data at_entry at_end)
