use Rattle.std.proofs.Common.{ℕ, ◌<◌, ◌≤◌, ◌-◌, length, slice_index_or}
use Rattle.iop_sysmem.specs.BlockMap.{no_block}
use Rattle.iop_sysmem.proofs.blocks.Blocks.put.Given as goal

abbrev pub invariant-loop-index : goal.invariant-loop-index
invariant-loop-index l =
    (l.index ≤ length l.self-inside.used.items)
    × ((k : ℕ) → k < l.index → (slice_index_or l.self-inside.used.items k no_block).start < l.place)

abbrev pub decreases-loop-index : goal.decreases-loop-index
decreases-loop-index l = length l.self-inside.used.items - l.index
