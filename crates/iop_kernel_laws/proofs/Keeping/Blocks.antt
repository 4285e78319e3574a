-- What the services keep of the blocks of memory.
use Rattle.std.proofs.Common.{◌≡◌, ℕ, ◌==◌, Bool, true, false, if◌then◌else◌, Option, Some, None, refl}
use Rattle.iop_base.specs.BlockSizes.{block_len}
use Rattle.iop_sysmem.specs.Allocating.{allocating, allocating_at, place_for}
use Rattle.iop_sysmem.specs.BlockMap.{BlockMap, freeing_of, freeing, index_to_free}
use Rattle.iop_sysmem.proofs.Keeping.{allocating-blocks, freeing-blocks}
use Rattle.iop_kernel.specs.Laws.{AreKept}

-- a block that is placed leaves memory as large as it was
size_placed : (map : BlockMap) (len : ℕ) (o : Option ℕ)
    → (allocating_at map len o).1.size ≡ map.size
size_placed map len None = refl
size_placed map len (Some place) = refl

-- by whether nothing is asked for
size_allocated : (map : BlockMap) (mode size at : ℕ) (none : Bool) →
    (if none then (0, map)
    else allocating_at map (block_len size) (place_for map mode (block_len size) at)).1.size
    ≡ map.size
size_allocated map mode size at true = refl
size_allocated map mode size at false =
    size_placed map (block_len size) (place_for map mode (block_len size) at)

-- so does an allocation
size_allocating : (map : BlockMap) (mode size at : ℕ)
    → (allocating map mode size at).1.size ≡ map.size
unfolding allocating
size_allocating map mode size at = size_allocated map mode size at (size == 0)

-- and a freeing
size_freed : (map : BlockMap) (o : Option ℕ) → (freeing_of map o).1.size ≡ map.size
size_freed map None = refl
size_freed map (Some i) = refl

-- blocks are kept where nothing is done
pub same_blocks : (map : BlockMap) → AreKept map map
same_blocks map = record { are_blocks = λ h. h; size = refl }

-- an allocation keeps them
pub allocating_keeps : (map : BlockMap) (mode size at : ℕ)
    → AreKept map (allocating map mode size at).1
allocating_keeps map mode size at = record {
  are_blocks = λ h. allocating-blocks map h mode size at;
  size = size_allocating map mode size at;
}

-- so does a freeing
pub freeing_keeps : (map : BlockMap) (at : ℕ) → AreKept map (freeing map at).1
freeing_keeps map at = record {
  are_blocks = λ h. freeing-blocks map h at;
  size = size_freed map (index_to_free map at);
}
