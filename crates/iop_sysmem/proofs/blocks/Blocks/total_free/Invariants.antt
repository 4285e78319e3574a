use Rattle.std.proofs.Common.{◌≡◌, ◌+◌, take}
use Rattle.iop_sysmem.specs.BlockMap.{used_bytes}
use Rattle.iop_sysmem.proofs.Walking.{Walk}
use Rattle.iop_sysmem.proofs.blocks.Blocks.total_free.Given as goal

abbrev pub invariant-loop-next : goal.invariant-loop-next
invariant-loop-next l =
    Walk (record { size = l.self-inside.size; used = l.next-items }) l.next-index l.start
    × (l.free + used_bytes (take l.next-index l.next-items) ≡ l.start)
