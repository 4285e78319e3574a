use Rattle.std.proofs.Common.{◌≡◌, filter, map}
use Rattle.irx_elf.specs.Headers.{section_number, is_relocations, relocation_sections}
use Rattle.irx_elf.specs.Rules.{first_unmet, entries_rule}
use Rattle.irx_elf.proofs.Rows.{row}
use Rattle.irx_elf.proofs.section_table.SectionTable.check.Given as goal

abbrev pub invariant-loop-number : goal.invariant-loop-number
invariant-loop-number l =
    let file = l.self.file.bytes.now in
    let left = filter is_relocations (row (section_number file) l.number l.number-end) in
    first_unmet (map (entries_rule file) left)
    ≡ first_unmet (map (entries_rule file) (relocation_sections file))
