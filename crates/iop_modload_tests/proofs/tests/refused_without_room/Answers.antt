use Rattle.std.proofs.Common.{◌≡◌, length, ap, ◌∙◌, rules}
use Rattle.iop_sysmem.specs.BlockMap.{BlockMap}
use Rattle.iop_modload.proofs.Blocks.{still-allocating}
use Rattle.iop_modload_tests.proofs.tests.refused_without_room.Goals as goal

pub load-answer-requires-clause-same_size : goal.load-answer-requires-clause-same_size
load-answer-requires-clause-same_size g c =
    let before : c.in_ok-blocks.blocks.size ≡ length c.in_ok-guest.guest.ram = search rules in
    ap (λ (map : BlockMap). map.size) c.alloc-4.ensures.map
    ∙ (still-allocating c.in_ok-blocks.blocks c.alloc-4.ensures.was_blocks 0 0x1F_0000 0).size
    ∙ before
