-- What the services of variable and fixed pools have alike (ps2sdk: thvpool.h, thfpool.h; the codes
-- are those of its kerr.h): a pool's memory is a block of its own, which is taken where the pool is
-- made and freed with it. Which block is taken is this project's own profile.
use Rattle.std.specs.Prelude.{ℕ, ◌==◌, Bool, if◌then◌else◌, Option, Some, None, Result, Ok, Err}
use Rattle.iop_base.specs.declared.code.Code.{Code}
use Rattle.iop_base.specs.declared.code.TheConstants.Code.{NO_MEMORY}
use Rattle.iop_objects.specs.Objects.{has_room}
use Rattle.iop_pools.specs.Pools.{Pool, Pools}
use Rattle.iop_sysmem.specs.Allocating.{allocating}
use Rattle.iop_sysmem.specs.BlockMap.{BlockMap, freeing}
use Rattle.iop_kernel.specs.Stacks.{Owner, with_blocks}
use Rattle.iop_kernel.specs.System.{Core, Left, answers}
use Rattle.iop_kernel.specs.declared.pool_services.TheConstants.{FROM_BELOW}

-- the first block of so many bytes that is free, where there is room for one more pool
abbrev pub block_at : BlockMap → ℕ × BlockMap → Option ℕ × BlockMap
block_at blocks (base, left) = if base == 0 then (None, blocks) else (Some base, left)

abbrev pub takes_memory : BlockMap → (room : Bool) → (bytes : ℕ) → Option ℕ × BlockMap
takes_memory blocks room bytes =
    if room then block_at blocks (allocating blocks FROM_BELOW bytes 0) else (None, blocks)

-- a pool is made on it; `makes` says what is made
module _ (o : Owner) (makes : (base : ℕ) → Left Core) where
  abbrev pub makes_on : Option ℕ × BlockMap → Left Owner
  makes_on (None, left) = with_blocks left (answers o.core NO_MEMORY)
  makes_on (Some base, left) = with_blocks left (makes base)

  -- by how many bytes it has
  abbrev pub makes_pool : {W : Type 0} → Pools W → Result ℕ Code → Left Owner
  makes_pool s (Err code) = with_blocks o.blocks (answers o.core code)
  makes_pool s (Ok bytes) = makes_on (takes_memory o.blocks (has_room s) bytes)

-- the block that begins at a pool's base is freed, if there is one
abbrev pub frees_memory : BlockMap → Option Pool → BlockMap
frees_memory blocks None = blocks
frees_memory blocks (Some x) = (freeing blocks x.base).1
