-- What the law of the blocks that are out of fixed pools says.
use Rattle.std.specs.Prelude.{◌≡◌, ℕ, true, All}
use Rattle.iop_objects.specs.Objects.{AreObjects, no_objects, takes_next, drops, requeues}
use Rattle.iop_objects.specs.Restoring.{with_next}
use Rattle.iop_pools.specs.FixedPools.{FixedPools, creates, deletes, takes, gives, waits}
use Rattle.iop_pools.specs.FixedRestoring.{IsInBlocks, puts, may_put_block, puts_block}
use Rattle.iop_pools.specs.Pools.{is_by_priority}
use Rattle.iop_pools.specs.Standing.{ArePools}
use Rattle.iop_pools.specs.declared.fixed_layout.FixedLayout.{FixedLayout}
use Rattle.iop_pools.specs.declared.fixed_pool.TheConstants.{MOST_BLOCKS}

-- each range that is out of a pool of the table is one block
abbrev pub AreInBlocks : FixedPools → Type 0
AreInBlocks s = All (λ o. IsInBlocks o.state) s.live

-- so it is after each call
pub record StayInBlocks (s : FixedPools) : Type 0 where
  pub creates : (attr option size count base : ℕ)
      → AreInBlocks (creates s attr option size count base).1
  pub deletes : (id : ℕ) → AreInBlocks (deletes s id).1
  pub takes : (id : ℕ) → AreInBlocks (takes s id).1
  pub gives : (id block : ℕ) → AreInBlocks (gives s id block).1
  pub waits : (id thread priority : ℕ) → AreInBlocks (waits s id thread priority)
  pub takes_next : (id : ℕ) → AreInBlocks (takes_next s id (is_by_priority s id)).1
  pub drops : (id thread : ℕ) → AreInBlocks (drops s id thread)
  pub requeues : (id thread priority : ℕ)
      → AreInBlocks (requeues s id (is_by_priority s id) thread priority)
  pub puts : (id : ℕ) (layout : FixedLayout) → AreInBlocks (puts s id layout)
  pub puts_block : (id block : ℕ) → may_put_block s id block ≡ true
      → AreInBlocks (puts_block s id block)
  pub with_next : (id : ℕ) → AreInBlocks (with_next s id)

pub record BlocksAreUnits : Type 0 where
  pub opening : AreInBlocks no_objects
  pub calls : (s : FixedPools) → AreObjects s → ArePools MOST_BLOCKS s → AreInBlocks s
      → StayInBlocks s
