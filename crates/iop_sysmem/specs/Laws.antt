-- What the laws on blocks say.
use Rattle.std.specs.Prelude.{ℕ, ◌≡◌, ◌<◌, ◌≤◌, ◌^◌, Some, [], ◌∷◌, drop}
use Rattle.iop_base.specs.declared.code.TheConstants.Code.{OK}
use Rattle.iop_sysmem.specs.BlockMap.{BlockMap, AreBlocks, freeing}
use Rattle.iop_sysmem.specs.Placing.{Allocates, IsMostFree}
use Rattle.iop_sysmem.specs.Allocating.{allocating, most_free}
use Rattle.iop_sysmem.specs.Restoring.{with_all}
use Rattle.iop_sysmem.specs.declared.blocks.TheConstants.{KERNEL}

-- an allocation takes the least free place, the greatest, or the named one, and none exactly where
-- there is none
abbrev pub AllocationsTakePlaces : Type 0
AllocationsTakePlaces =
    (blocks : BlockMap) (mode size at : ℕ) → AreBlocks blocks →
    let done = allocating blocks mode size at in Allocates blocks done.1 mode size at done.0

abbrev pub MostFreeIsMost : Type 0
MostFreeIsMost = (blocks : BlockMap) → AreBlocks blocks → IsMostFree blocks (most_free blocks)

-- to free what was allocated gives the blocks back as they were, where each place is its own address
abbrev pub AllocationsAreFreed : Type 0
AllocationsAreFreed =
    (blocks : BlockMap) (mode size at : ℕ) → AreBlocks blocks → blocks.size ≤ 2 ^ 29 →
    let done = allocating blocks mode size at in
    0 < done.0 → freeing done.1 done.0 ≡ (OK, blocks)

-- the blocks behind the kernel's, put back behind it, are all accepted and give the map again
abbrev pub BlocksArePutBack : Type 0
BlocksArePutBack =
    (map : BlockMap) → AreBlocks map
    → with_all (record map { used = KERNEL ∷ [] }) (drop 1 map.used) ≡ Some map
