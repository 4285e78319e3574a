use Rattle.iop_sysmem.proofs.Walking.{Walk, IsMostBefore}
use Rattle.iop_sysmem.proofs.blocks.Blocks.max_free.Given as goal

abbrev pub invariant-loop-next : goal.invariant-loop-next
invariant-loop-next l =
    Walk (record { size = l.self-inside.size; used = l.next-items }) l.next-index l.start
    × IsMostBefore (record { size = l.self-inside.size; used = l.next-items }) l.start l.most
