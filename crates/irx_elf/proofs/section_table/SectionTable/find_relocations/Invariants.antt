use Rattle.std.proofs.Common.{◌≡◌, filter}
use Rattle.std.specs.List.{slice_get}
use Rattle.irx_elf.specs.Headers.{section_number, is_relocations, relocation_sections}
use Rattle.irx_elf.proofs.Rows.{row}
use Rattle.irx_elf.proofs.section_table.SectionTable.find_relocations.Given as goal

abbrev pub invariant-loop-number : goal.invariant-loop-number
invariant-loop-number l =
    let file = l.self.file.bytes.now in
    let left = filter is_relocations (row (section_number file) l.number l.number-end) in
    slice_get left l.left ≡ slice_get (relocation_sections file) l.k
