-- The blocks of RAM, and what is freed and asked of them (ps2sdk: sysmem.h). That blocks are of whole
-- units of 256 bytes, and what the queries answer in free memory, is this project's own profile.
use Rattle.std.specs.Prelude.{ℕ, zero, suc, ◌≡◌, ◌+◌, ◌-◌, ◌%◌, ◌==◌, ◌<◌, ◌≤◌, nat_le, nat_lt, ◌&&◌, if◌then◌else◌, Option, Some, None, option_map, option_and_then, List, [], ◌∷◌, length, slice_index_or}
use Rattle.std.specs.List.{position, remove}
use Rattle.iop_base.specs.Places.{phys}
use Rattle.iop_base.specs.declared.blocks.TheConstants.{BLOCK_UNIT}
use Rattle.iop_base.specs.declared.code.Code.{Code}
use Rattle.iop_base.specs.declared.code.TheConstants.Code.{OK}
use Rattle.iop_sysmem.specs.declared.block.Block.{Block}
use Rattle.iop_sysmem.specs.declared.blocks.TheConstants.{KERNEL, NO_BLOCK}

-- how many bytes RAM has, and its used ranges in the order of their starts
pub record BlockMap : Type 0 where
  pub size : ℕ
  pub used : List Block

-- the block of this start and size
abbrev pub block_at : ℕ → ℕ → Block
block_at start size = record { start = start; size = size }

-- what is read past the last block
abbrev pub no_block : Block
no_block = block_at 0 0

-- the block of this index
abbrev pub block_of : BlockMap → ℕ → Block
block_of map i = slice_index_or map.used i no_block

-- where a block ends: the place behind it
abbrev pub end_of : Block → ℕ
end_of block = block.start + block.size

-- a size that a block may have
abbrev pub IsBlockSize : ℕ → Type 0
IsBlockSize size = (size % BLOCK_UNIT ≡ 0) × (0 < size)

-- what holds of the blocks at all times
pub record AreBlocks (map : BlockMap) : Type 0 where
  -- the kernel's block is the first
  pub some : 0 < length map.used
  pub kernel : block_of map 0 ≡ KERNEL
  pub starts : (i : ℕ) → i < length map.used → (block_of map i).start % BLOCK_UNIT ≡ 0
  pub sizes : (i : ℕ) → i < length map.used → IsBlockSize (block_of map i).size
  -- in order, and no two meet
  pub order : (i j : ℕ) → i < j → j < length map.used →
      end_of (block_of map i) ≤ (block_of map j).start
  pub inside : (i : ℕ) → i < length map.used → end_of (block_of map i) ≤ map.size
  pub sized : map.size % BLOCK_UNIT ≡ 0

-- the blocks with one more, in the order of their starts
abbrev pub insert_block : Block → List Block → List Block
insert_block block [] = block ∷ []
insert_block block (x ∷ xs) =
    if nat_lt block.start x.start then block ∷ x ∷ xs else x ∷ insert_block block xs

-- the map with one more block
abbrev pub with_block : BlockMap → ℕ → ℕ → BlockMap
with_block map place len = record map { used = insert_block (block_at place len) map.used }

-- the index, unless it is that of the kernel's block, which is never freed
abbrev pub unless_kernel : Option ℕ → Option ℕ
unless_kernel None = None
unless_kernel (Some zero) = None
unless_kernel (Some (suc i)) = Some (suc i)

-- the index of the block that starts at a place
abbrev pub index_at : BlockMap → ℕ → Option ℕ
index_at map place = position (λ x. x.start == place) map.used

-- the index of the block that starts at an address and may be freed
abbrev pub index_to_free : BlockMap → ℕ → Option ℕ
index_to_free map at = unless_kernel (option_and_then (index_at map) (phys map.size at))

-- the map without the block of this index
abbrev pub without_block : BlockMap → ℕ → BlockMap
without_block map i = record map { used = remove map.used i }

-- what the freeing of the block of this index is answered, and the map that it leaves
abbrev pub freeing_of : BlockMap → Option ℕ → Code × BlockMap
freeing_of map None = (NO_BLOCK, map)
freeing_of map (Some i) = (OK, without_block map i)

abbrev pub freeing : BlockMap → ℕ → Code × BlockMap
freeing map at = freeing_of map (index_to_free map at)

-- the index of the block that holds a place
abbrev pub index_holding : BlockMap → ℕ → Option ℕ
index_holding map place =
    position (λ x. nat_le x.start place && nat_lt (place - x.start) x.size) map.used

-- the block that holds the place of an address
abbrev pub holder : BlockMap → ℕ → Option Block
holder map at =
    option_map (block_of map) (option_and_then (index_holding map) (phys map.size at))

-- how many bytes are used
abbrev pub used_bytes : List Block → ℕ
used_bytes [] = 0
used_bytes (x ∷ xs) = x.size + used_bytes xs
