-- How many blocks can be used.
use Rattle.std.proofs.Common.{◌-◌, ◌<◌, ◌≤◌, length, arith}
use Rattle.iop_sysmem.proofs.Changing.{start_at_least}
use Rattle.iop_sysmem.specs.BlockMap.{BlockMap, AreBlocks}

-- each block takes some bytes of RAM
pub few_used : (map : BlockMap) → AreBlocks map → length map.used ≤ map.size
few_used map blocks =
    let last = length map.used - 1 in
    let inside : last < length map.used = omega (arith, blocks.some) in
    omega (
      arith,
      start_at_least map blocks last inside,
      (blocks.sizes last inside).1,
      blocks.inside last inside,
      blocks.some,
    )
