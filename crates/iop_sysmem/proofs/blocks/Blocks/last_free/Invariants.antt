use Rattle.iop_sysmem.proofs.Walking.{Walk, IsGreatestBefore}
use Rattle.iop_sysmem.proofs.blocks.Blocks.last_free.Given as goal

abbrev pub invariant-loop-next : goal.invariant-loop-next
invariant-loop-next l =
    Walk (record { size = l.self-inside.size; used = l.next-items }) l.next-index l.start
    × IsGreatestBefore (record { size = l.self-inside.size; used = l.next-items }) l.len l.start
    l.last
