use Rattle.std.proofs.Common.{◌≡◌, take}
use Rattle.irx_reloc.specs.Entries.{entries_of}
use Rattle.irx_view.specs.Types.{count_of}
use Rattle.irx_view.proofs.entries.count_in_section.Given as goal

abbrev pub invariant-loop-index : goal.invariant-loop-index
invariant-loop-index l = l.count ≡ count_of l.number (take l.index (entries_of l.section))
