use Rattle.std.proofs.Common.{◌≡◌, ◌<◌, drop}
use Rattle.irx_reloc.specs.Entries.{entries_of}
use Rattle.irx_reloc.specs.Fitting.{section_misfit}
use Rattle.irx_reloc.specs.Walking.{IsNextLow}
use Rattle.irx_reloc.proofs.fitting.section_misfit.Given as goal

abbrev pub invariant-loop-index : goal.invariant-loop-index
invariant-loop-index l = record {
  low : l.index < l.next_low → IsNextLow (entries_of l.section) l.index l.next_low;
  left : section_misfit l.length (drop l.index (entries_of l.section)) ≡ section_misfit l.length
      (entries_of l.section);
}
