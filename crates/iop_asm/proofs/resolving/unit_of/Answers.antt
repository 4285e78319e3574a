use Rattle.std.proofs.Common.{rules, ◌≡◌, [], ◌++◌, ap, sym, subst, ◌∙◌, length}
use Rattle.std.specs.Option.{unwrap_or}
use Rattle.iop_asm.specs.NumberedCells.{AreCells}
use Rattle.iop_asm.specs.Assembly.{cells_bytes, cells_relocations, entry_address}
use Rattle.iop_asm.specs.declared.resolving.TheConstants.{DEFAULT_VERSION}
use Rattle.iop_asm.proofs.SectionLemmas.{AreCells-length}
use Rattle.iop_asm.proofs.resolving.unit_of.Goals as goal

pub returns : goal.returns
returns c = λ d h.
    let held = c.args.draft.now in
    let words : c.len-text_words.result ≡ length d.text =
    c.len-text_words.ensures ∙ sym c.deref.ensures.len ∙ ap length c.deref.ensures.value
    ∙ AreCells-length held.labels held.text.items d.text h.text in
    let name : c.in_ok-to_vec.field-0.items ≡ unwrap_or d.name [] =
    c.in_ok-to_vec.ensures.items_if_clones_equal (search rules) ∙ c.name_of.ensures d h in
    let version : c.unwrap_or.result ≡ unwrap_or d.version DEFAULT_VERSION =
    c.unwrap_or.ensures ∙ ap (λ o. unwrap_or o DEFAULT_VERSION) h.version in
    let entry : c.entry_address.result ≡ entry_address d = c.entry_address.ensures d h in
    let bss : c.unwrap_or-2.result ≡ unwrap_or d.bss 0 =
    c.unwrap_or-2.ensures ∙ ap (λ o. unwrap_or o 0) h.bss in
    let bytes : c.in_ok-cells_bytes.field-0.items ≡ cells_bytes d 0 d.text =
    c.in_ok-cells_bytes.ensures d d.text h
    (subst (λ l. AreCells held.labels l d.text) (sym c.deref-3.ensures.value) h.text) in
    let data_bytes : c.in_ok-cells_bytes-2.field-0.items ≡ cells_bytes d (length d.text) d.«data» =
    c.in_ok-cells_bytes-2.ensures d d.«data» h
    (subst (λ l. AreCells held.labels l d.«data») (sym c.deref-4.ensures.value) h.«data»)
    ∙ ap (λ n. cells_bytes d n d.«data») words in
    let relocations : c.push_relocations-2.new.relocations.items
    ≡ cells_relocations 0 d.text ++ cells_relocations (length d.text) d.«data» =
    c.in_ok-push_relocations-2.ensures held.labels d.«data»
    (subst (λ l. AreCells held.labels l d.«data») (sym c.deref-2.ensures.value) h.«data»)
    ∙ ap (λ l. l ++ cells_relocations c.len-text_words.result d.«data»)
    (c.in_ok-push_relocations.ensures held.labels d.text
    (subst (λ l. AreCells held.labels l d.text) (sym c.deref.ensures.value) h.text)
    ∙ ap (λ l. l ++ cells_relocations 0 d.text) c.new-relocations.ensures.items)
    ∙ ap (λ n. cells_relocations 0 d.text ++ cells_relocations n d.«data») words in
    λ i. record {
      name = name i;
      version = version i;
      entry = entry i;
      gp = 0;
      text = bytes i;
      «data» = data_bytes i;
      bss = bss i;
      relocations = relocations i;
    }
