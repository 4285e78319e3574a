-- What the services on blocks answer, and which blocks they leave (ps2sdk: sysmem.h). Which place each
-- mode takes, and that 0 is answered where there is none, is this project's own profile.
use Rattle.std.specs.Prelude.{ℕ, zero, suc, ◌+◌, ◌-◌, ◌*◌, ◌/◌, ◌%◌, ◌==◌, nat_le, Bool, ◌&&◌, ◌||◌, if◌then◌else◌, is_some, Option, Some, None, option_and_then, unwrap_or, List, map, find, reverse}
use Rattle.std.specs.List.{list_all, range_with_len}
use Rattle.iop_base.specs.BlockSizes.{block_len}
use Rattle.iop_base.specs.Places.{phys}
use Rattle.iop_base.specs.declared.blocks.TheConstants.{BLOCK_UNIT}
use Rattle.iop_sysmem.specs.BlockMap.{BlockMap, end_of, with_block, used_bytes}
use Rattle.iop_sysmem.specs.declared.block.Block.{Block}

-- where a block may begin: the multiples of the unit, from 0 up
abbrev pub starts : BlockMap → List ℕ
starts blocks = map (λ k. k * BLOCK_UNIT) (range_with_len 0 (blocks.size / BLOCK_UNIT))

-- whether a block has no byte in a range
abbrev pub is_apart : (place len : ℕ) → Block → Bool
is_apart place len block = nat_le (end_of block) place || nat_le (place + len) block.start

-- whether so many bytes are free at a place
abbrev pub is_free : BlockMap → (len place : ℕ) → Bool
is_free blocks len place =
    nat_le (place + len) blocks.size && list_all (is_apart place len) blocks.used

-- the place, if a block of so many bytes can stand there
abbrev pub if_free : BlockMap → (len place : ℕ) → Option ℕ
if_free blocks len place =
    if place % BLOCK_UNIT == 0 && is_free blocks len place then Some place else None

-- the place that a mode takes for so many bytes: the first from below, the first from above, or the
-- one that the address names
abbrev pub place_for : BlockMap → (mode len at : ℕ) → Option ℕ
place_for blocks zero len at = find (is_free blocks len) (starts blocks)
place_for blocks (suc zero) len at = find (is_free blocks len) (reverse (starts blocks))
place_for blocks (suc (suc zero)) len at =
    option_and_then (if_free blocks len) (phys blocks.size at)
place_for blocks (suc (suc (suc mode))) len at = None

abbrev pub allocating_at : BlockMap → (len : ℕ) → Option ℕ → ℕ × BlockMap
allocating_at blocks len None = (0, blocks)
allocating_at blocks len (Some place) = (place, with_block blocks place len)

-- what the allocation of so many bytes answers, and the blocks that it leaves
unfoldable pub allocating : BlockMap → (mode size at : ℕ) → ℕ × BlockMap
allocating blocks mode size at =
    if size == 0 then (0, blocks)
    else allocating_at blocks (block_len size) (place_for blocks mode (block_len size) at)

-- the greatest number of bytes that are free at one place
unfoldable pub most_free : BlockMap → ℕ
most_free blocks =
    unwrap_or (find (λ len. is_some (place_for blocks 0 len 0)) (reverse (starts blocks))) 0

-- how many bytes are free
abbrev pub free_bytes : BlockMap → ℕ
free_bytes blocks = blocks.size - used_bytes blocks.used
