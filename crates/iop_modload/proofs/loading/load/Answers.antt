use Rattle.std.proofs.Common.{sym, ◌∙◌, subst}
use Rattle.iop_stubs.specs.Stubs.{Memory}
use Rattle.iop_modload.specs.Laws.{HasBlocks}
use Rattle.iop_modload.specs.Loading.{loads, LeavesRefused}
use Rattle.iop_modload.proofs.Keeping.{whole-same}
use Rattle.iop_modload.proofs.LoadingLemmas.{loading_keeps, loading_leaves, on_err-same}
use Rattle.iop_modload.proofs.loading.load.Given.{Over}
use Rattle.iop_modload.proofs.loading.load.Goals as goal

before : (g : Over) (c : goal.After-load_file g) → HasBlocks c.args.guest.now c.args.blocks.now
before g c = record {
  sound = c.ram.ensures.sound;
  are_blocks = c.size-2.ensures.blocks;
  same_size = c.requires.same_size;
}

whole : (g : Over) (c : goal.After-load_file g)
    → HasBlocks c.load_file.new.guest c.load_file.new.blocks
whole g c =
    whole-same _ _ _ _
    (loading_keeps c.args.t c.args.guest.now c.args.blocks.now c.args.registry.now (before g c)
    c.args.file.now).whole
    c.load_file.ensures.memory c.load_file.ensures.blocks

pub returns-clause-same_blocks : goal.returns-clause-same_blocks
returns-clause-same_blocks g c =
    on_err-same _ _ c.load_file.ensures.answer
    (λ h. c.load_file.ensures.blocks ∙ h.0)
    (loading_leaves c.args.t c.args.guest.now c.args.blocks.now c.args.registry.now (before g c)
    c.args.file.now)

pub returns-clause-refused : goal.returns-clause-refused
returns-clause-refused g c =
    let l = loads c.args.t c.args.guest.now c.args.blocks.now c.args.registry.now c.args.file.now in
    on_err-same _ _ c.load_file.ensures.answer
    (λ h. subst (λ (m : Memory).
    LeavesRefused c.args.t c.args.file.now c.args.guest.now m c.args.blocks.now l.pieces)
    (sym c.load_file.ensures.memory) h.1)
    (loading_leaves c.args.t c.args.guest.now c.args.blocks.now c.args.registry.now (before g c)
    c.args.file.now)

pub returns-clause-same_size : goal.returns-clause-same_size
returns-clause-same_size g c = (whole g c).same_size

pub returns-clause-are_blocks : goal.returns-clause-are_blocks
returns-clause-are_blocks g c = (whole g c).are_blocks

pub returns-clause-sound : goal.returns-clause-sound
returns-clause-sound g c = (whole g c).sound
