use Rattle.std.proofs.Common.{ℕ, ◌<◌, slice_index_or}
use Rattle.iop_sysmem.specs.BlockMap.{block_at, no_block}
use Rattle.iop_sysmem.specs.Placing.{AreApart}
use Rattle.iop_sysmem.proofs.blocks.Blocks.named_free.Given as goal

abbrev pub invariant-loop-start : goal.invariant-loop-start
invariant-loop-start l =
    (k : ℕ) → k < l.start-index →
    AreApart (slice_index_or l.start-items k no_block) (block_at l.place l.len)
