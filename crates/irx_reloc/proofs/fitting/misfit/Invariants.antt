use Rattle.std.proofs.Common.{◌≡◌, length}
use Rattle.irx_reloc.specs.Entries.{all_entries}
use Rattle.irx_reloc.specs.Fitting.{misfit}
use Rattle.irx_reloc.proofs.fitting.misfit.Given as goal

abbrev pub invariant-loop-section : goal.invariant-loop-section
invariant-loop-section l =
    misfit l.length (all_entries l.lists) ≡ misfit l.length (all_entries l.relocations)

abbrev pub decreases-loop-section : goal.decreases-loop-section
decreases-loop-section l = length l.lists
