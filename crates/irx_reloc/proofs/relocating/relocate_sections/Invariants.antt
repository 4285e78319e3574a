use Rattle.std.proofs.Common.{◌≡◌, None, length}
use Rattle.irx_reloc.specs.Entries.{all_entries}
use Rattle.irx_reloc.specs.Fitting.{misfit}
use Rattle.irx_reloc.specs.Relocating.{relocated_image}
use Rattle.irx_reloc.proofs.relocating.relocate_sections.Given as goal

abbrev pub invariant-loop-section : goal.invariant-loop-section
invariant-loop-section l = record {
  fits : misfit (length l.image) (all_entries l.lists) ≡ None;
  left : relocated_image l.image (all_entries l.lists) l.base ≡ relocated_image l.fn.image
      (all_entries l.relocations) l.base;
}

abbrev pub decreases-loop-section : goal.decreases-loop-section
decreases-loop-section l = length l.lists
