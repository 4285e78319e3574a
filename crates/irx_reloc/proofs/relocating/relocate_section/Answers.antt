use Rattle.std.proofs.Common.{◌+◌, drop, length, ap, sym, ◌∙◌, arith}
use Rattle.irx_reloc.specs.Entries.{entries_of}
use Rattle.irx_reloc.specs.Relocating.{after_section}
use Rattle.irx_reloc.specs.Walking.{pair_of}
use Rattle.irx_reloc.proofs.Fits.{entry_at_fits}
use Rattle.irx_reloc.proofs.Steps.{section_after}
use Rattle.irx_reloc.proofs.relocating.relocate_section.Goals as goal

pub apply-requires : goal.apply-requires
apply-requires c =
    entry_at_fits (length c.args.image.now) (entries_of c.args.section.now)
    (length c.loop-index.image) c.loop-index.index c.read.result c.requires
    c.loop-index.auto.image (omega arith) c.read.ensures

pub loop-index-preserved : goal.loop-index-preserved
loop-index-preserved c = record {
  low = λ lt. c.low_behind-next_low.ensures;
  left =
      ap (λ image. after_section image
      (drop (c.loop-index.index + 1) (entries_of c.args.section.now)) c.args.base)
      c.apply.ensures
      ∙ sym (section_after (entries_of c.args.section.now) c.args.base c.loop-index.image
      c.loop-index.index c.low_behind-next_low.result c.low_half-low.result
      (pair_of c.read.result) (omega arith) c.read.ensures c.low_behind-next_low.ensures
      c.low_half-low.ensures)
      ∙ c.loop-index.invariant.left;
}
