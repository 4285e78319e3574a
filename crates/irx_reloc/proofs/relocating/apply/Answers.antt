use Rattle.std.proofs.Common.{refl, sym, ◌∙◌}
use Rattle.irx_reloc.specs.Walking.{pair_of}
use Rattle.irx_reloc.proofs.Fits.{site_inside}
use Rattle.irx_reloc.proofs.Moved.{moved_some}
use Rattle.irx_reloc.proofs.relocating.apply.Goals as goal

pub put_word-requires : goal.put_word-requires
put_word-requires c =
    site_inside _ (pair_of c.args.entry) c.requires.0 c.requires.1
    (moved_some (pair_of c.args.entry).1 _ c.args.low c.args.base c.in-Some.word _ refl
    (sym c.new_word.ensures ∙ c.in-Some.is))
