use Rattle.iop_base.proofs.Giving.{gives_then}
use Rattle.iop_modload.specs.Finishing.{finishes}
use Rattle.iop_modload.specs.Laws.{HasBlocks}
use Rattle.iop_modload.proofs.FinishingLemmas.{keeps-keeps}
use Rattle.iop_modload.proofs.Keeping.{whole-same}
use Rattle.iop_modload.proofs.finishing.finish.Given.{Over}
use Rattle.iop_modload.proofs.finishing.finish.Goals as goal

whole : (g : Over) (c : goal.After-leave g) → HasBlocks c.leave.new.guest c.leave.new.blocks
whole g c =
    whole-same _ _ _ _
    (keeps-keeps c.args.t c.args.guest.now c.args.blocks.now c.args.registry.now (record {
      sound = c.ram.ensures.sound;
      are_blocks = c.size-2.ensures.blocks;
      same_size = c.requires.same_size;
    }) c.args.place.now c.of_value-kept.result).whole
    c.leave.ensures.memory c.leave.ensures.blocks

pub returns-clause-lines : goal.returns-clause-lines
unfolding finishes
returns-clause-lines g c =
    rw (← c.of_value-kept.ensures) (gives_then c.line.ensures c.leave.ensures.lines)

pub returns-clause-same_size : goal.returns-clause-same_size
returns-clause-same_size g c = (whole g c).same_size

pub returns-clause-are_blocks : goal.returns-clause-are_blocks
returns-clause-are_blocks g c = (whole g c).are_blocks

pub returns-clause-sound : goal.returns-clause-sound
returns-clause-sound g c = (whole g c).sound
