use Rattle.std.proofs.Common.{List, length, ap, sym, ◌∙◌, arith}
use Rattle.irx_elf.specs.Headers.{section_number, is_relocations}
use Rattle.irx_elf.specs.declared.section.Section.{Section}
use Rattle.irx_elf.proofs.Rows.{filter-here, filter-later, filter-end}
use Rattle.irx_elf.proofs.Headers.{relocation_sections-are}
use Rattle.irx_elf.proofs.section_table.SectionTable.count_relocations.Goals as goal
use Rattle.irx_elf.proofs.section_table.SectionTable.count_relocations.Goals.{then-is_relocations, else-is_relocations}

pub loop-number-init : goal.loop-number-init
loop-number-init c =
    let all = ap (λ (xs : List Section). length xs)
    (relocation_sections-are c.args.self.now.file.bytes.now c.count-number-end.result
    c.count-number-end.ensures) in
    record { count = omega (arith, all); few = omega arith }

pub loop-number-preserved : goal.loop-number-preserved
loop-number-preserved c =
    let f = section_number c.args.self.now.file.bytes.now in
    let i = c.loop-number.number in
    let n = c.count-number-end.result in
    elim c.if-is_relocations.branch [
      | then-is_relocations w ↦
          let same = sym (ap is_relocations c.section.ensures) ∙ sym c.is_relocations.ensures
          ∙ w.if-is_relocations.true in
          let one = ap (λ (xs : List Section). length xs)
          (filter-here is_relocations f i n c.loop-number-test.true same) in
          record { count = omega (arith, one); few = omega arith }
      | else-is_relocations w ↦
          let other = sym (ap is_relocations c.section.ensures) ∙ sym c.is_relocations.ensures
          ∙ w.if-is_relocations.false in
          let none = ap (λ (xs : List Section). length xs)
          (filter-later is_relocations f i n c.loop-number-test.true other) in
          record { count = omega (arith, none); few = omega arith }
    ]

pub returns : goal.returns
returns c =
    let f = section_number c.args.self.now.file.bytes.now in
    let none = ap (λ (xs : List Section). length xs)
    (filter-end is_relocations f c.loop-number.number c.count-number-end.result
    c.loop-number-test.false) in
    omega (arith, none)
