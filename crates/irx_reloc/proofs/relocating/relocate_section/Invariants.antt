use Rattle.std.proofs.Common.{◌≡◌, ◌<◌, drop}
use Rattle.irx_reloc.specs.Entries.{entries_of}
use Rattle.irx_reloc.specs.Relocating.{after_section}
use Rattle.irx_reloc.specs.Walking.{IsNextLow}
use Rattle.irx_reloc.proofs.relocating.relocate_section.Given as goal

abbrev pub invariant-loop-index : goal.invariant-loop-index
invariant-loop-index l = record {
  low : l.index < l.next_low → IsNextLow (entries_of l.section) l.index l.next_low;
  left : after_section l.image (drop l.index (entries_of l.section)) l.base ≡ after_section
      l.fn.image (entries_of l.section) l.base;
}
