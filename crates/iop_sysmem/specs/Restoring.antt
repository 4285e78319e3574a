-- How a used range is put back behind the others. That it has whole units, one at least, and lies
-- behind the last one and inside RAM, is what holds of blocks at all times.
use Rattle.std.specs.Prelude.{ℕ, ◌-◌, ◌%◌, ◌==◌, nat_le, nat_lt, Bool, ◌&&◌, if◌then◌else◌, Option, Some, None, List, [], ◌∷◌, ◌++◌, length}
use Rattle.iop_base.specs.declared.blocks.TheConstants.{BLOCK_UNIT}
use Rattle.iop_sysmem.specs.BlockMap.{BlockMap, block_of, end_of}
use Rattle.iop_sysmem.specs.declared.block.Block.{Block}

-- where the last block ends
abbrev pub last_end : BlockMap → ℕ
last_end map = end_of (block_of map (length map.used - 1))

-- whether a block may stand behind all others
abbrev pub may_follow : BlockMap → Block → Bool
may_follow map block =
    nat_le (last_end map) block.start && block.start % BLOCK_UNIT == 0 && nat_lt 0 block.size
    && block.size % BLOCK_UNIT == 0 && nat_le (end_of block) map.size

-- it stands there
abbrev pub with_last : BlockMap → Block → BlockMap
with_last map block = record map { used = map.used ++ block ∷ [] }

-- the map with all of these put back in their order. None where one is refused
abbrev pub with_all : BlockMap → List Block → Option BlockMap
with_all map [] = Some map
with_all map (block ∷ later) =
    if may_follow map block then with_all (with_last map block) later else None
