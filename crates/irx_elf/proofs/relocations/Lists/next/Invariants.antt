use Rattle.std.proofs.Common.{◌≡◌, ◌-◌}
use Rattle.irx_elf.specs.Headers.{file_header}
use Rattle.irx_elf.specs.Parts.{lists_from}
use Rattle.irx_elf.proofs.relocations.Lists.next.Given as goal

abbrev pub invariant-loop-self : goal.invariant-loop-self
invariant-loop-self l =
    let file = l.initial.self-inside.table.file.bytes.now in
    record {
      same : l.self-inside.table.file.bytes.now ≡ file;
      left : lists_from file l.self-inside.number ≡ lists_from file l.initial.self-inside.number;
    }

abbrev pub decreases-loop-self : goal.decreases-loop-self
decreases-loop-self l = (file_header l.table.file.bytes.now).section_count - l.self-inside.number
