use Rattle.std.proofs.Common.{◌+◌, Some, List, filter, ap, sym, ◌∙◌}
use Rattle.std.specs.List.{slice_get}
use Rattle.irx_elf.specs.Headers.{section_number, is_relocations}
use Rattle.irx_elf.specs.declared.section.Section.{Section}
use Rattle.irx_elf.proofs.Rows.{row, filter-here, filter-later, filter-end, slice_get-behind}
use Rattle.irx_elf.proofs.Headers.{relocation_sections-are}
use Rattle.irx_elf.proofs.section_table.SectionTable.find_relocations.Goals as goal
use Rattle.irx_elf.proofs.section_table.SectionTable.find_relocations.Goals.{then-is_relocations+else-left-eq0, else-is_relocations}

pub loop-number-init : goal.loop-number-init
loop-number-init c =
    ap (λ (xs : List Section). slice_get xs c.args.k)
    (relocation_sections-are c.args.self.now.file.bytes.now c.count-number-end.result
    c.count-number-end.ensures)

pub returns-then-left-eq0 : goal.returns-then-left-eq0
returns-then-left-eq0 c =
    let f = section_number c.args.self.now.file.bytes.now in
    let rest = filter is_relocations (row f c.loop-number.number c.count-number-end.result) in
    let same = sym (ap is_relocations c.section-section.ensures) ∙ sym c.is_relocations.ensures
    ∙ c.if-is_relocations.true in
    ap Some c.section-section.ensures
    ∙ sym (ap (λ (xs : List Section). slice_get xs 0)
    (filter-here is_relocations f c.loop-number.number c.count-number-end.result
    c.loop-number-test.true same))
    ∙ ap (slice_get rest) (sym c.if-left-eq0.true)
    ∙ c.loop-number.invariant

pub loop-number-preserved : goal.loop-number-preserved
loop-number-preserved c =
    let f = section_number c.args.self.now.file.bytes.now in
    let i = c.loop-number.number in
    let n = c.count-number-end.result in
    let rest = filter is_relocations (row f (i + 1) n) in
    elim c.if-is_relocations.branch [
      | then-is_relocations+else-left-eq0 w ↦
          let same = sym (ap is_relocations c.section-section.ensures)
          ∙ sym c.is_relocations.ensures ∙ w.if-is_relocations.true in
          ap (slice_get rest) w.left-is
          ∙ sym (slice_get-behind (f i) rest c.loop-number.left w.if-left-eq0.false)
          ∙ sym (ap (λ (xs : List Section). slice_get xs c.loop-number.left)
          (filter-here is_relocations f i n c.loop-number-test.true same))
          ∙ c.loop-number.invariant
      | else-is_relocations w ↦
          let other = sym (ap is_relocations c.section-section.ensures)
          ∙ sym c.is_relocations.ensures ∙ w.if-is_relocations.false in
          ap (slice_get rest) w.left-is
          ∙ sym (ap (λ (xs : List Section). slice_get xs c.loop-number.left)
          (filter-later is_relocations f i n c.loop-number-test.true other))
          ∙ c.loop-number.invariant
    ]

pub returns : goal.returns
returns c =
    sym (ap (λ (xs : List Section). slice_get xs c.loop-number.left)
    (filter-end is_relocations (section_number c.args.self.now.file.bytes.now)
    c.loop-number.number c.count-number-end.result c.loop-number-test.false))
    ∙ c.loop-number.invariant
