use Rattle.std.proofs.Common.{◌≡◌, ◌+◌, ◌≤◌, filter, length}
use Rattle.irx_elf.specs.Headers.{section_number, is_relocations, relocation_sections}
use Rattle.irx_elf.proofs.Rows.{row}
use Rattle.irx_elf.proofs.section_table.SectionTable.count_relocations.Given as goal

abbrev pub invariant-loop-number : goal.invariant-loop-number
invariant-loop-number l =
    let file = l.self.file.bytes.now in
    let left = filter is_relocations (row (section_number file) l.number l.number-end) in
    record {
      count : l.count + length left ≡ length (relocation_sections file);
      few : l.count ≤ l.number;
    }
