-- How fixed pools are put back.
use Rattle.std.specs.Prelude.{◌≡◌, ℕ, ◌+◌, ◌*◌, ◌/◌, ◌%◌, ◌^◌, ◌==◌, nat_le, nat_lt, Bool, true, ⊤, ◌&&◌, if◌then◌else◌, Option, Some, None, option_map, option_and_then, unwrap_or, List, [], ◌∷◌, map, All}
use Rattle.iop_objects.specs.Objects.{Object, state_of}
use Rattle.iop_objects.specs.Restoring.{may_follow, with_last, with_waiters_back, IsRestorable}
use Rattle.iop_pools.specs.FixedPools.{FixedPools}
use Rattle.iop_pools.specs.Pools.{Pool, is_attribute}
use Rattle.iop_pools.specs.Restoring.{may_be_base, may_be_out, with_out_last, restored_by}
use Rattle.iop_pools.specs.Standing as standing
use Rattle.iop_pools.specs.Standing.{pool_with, IsPool}
use Rattle.iop_pools.specs.declared.fixed_layout.FixedLayout.{FixedLayout}
use Rattle.iop_pools.specs.declared.fixed_pool.TheConstants.{FIXED_UNIT, MOST_BLOCK_BYTES, MOST_BLOCKS}
use Rattle.iop_pools.specs.declared.layout.Layout.{Layout}
use Rattle.iop_pools.specs.declared.range.Range.{Range}

-- the addresses of blocks
abbrev pub blocks_in : List Range → List ℕ
blocks_in ranges = map (λ r. r.start) ranges

-- how a pool is laid out of which the units are known
abbrev pub layout_in : Layout → FixedLayout
layout_in x = record {
  attr = x.attr;
  option = x.option;
  base = x.base;
  size = x.unit;
  count = x.size / x.unit;
}

abbrev pub layout_of : Pool → FixedLayout
layout_of x = layout_in (standing.layout_of x)

-- the same in units, each of which is a block
abbrev pub layout_for : FixedLayout → Layout
layout_for x = record {
  attr = x.attr;
  option = x.option;
  base = x.base;
  size = x.size * x.count;
  unit = x.size;
}

-- whether a pool may stand that is laid out so: its attribute, its size and its count are ones that
-- a pool can be made with, the size is rounded, and it begins where a pool can and ends below 2^32
abbrev pub may_stand : FixedLayout → Bool
may_stand x =
    is_attribute x.attr && may_be_base x.base && nat_lt 0 x.size && nat_le x.size MOST_BLOCK_BYTES
    && x.size % FIXED_UNIT == 0 && nat_lt 0 x.count && nat_le x.count MOST_BLOCKS
    && nat_lt (x.base + x.size * x.count) (2 ^ 32)

-- whether a pool may stand behind all others
abbrev pub may_put : FixedPools → ℕ → FixedLayout → Bool
may_put s id layout = may_stand layout && may_follow s id

-- it stands there, no block is out of it and no thread waits
abbrev pub puts : FixedPools → ℕ → FixedLayout → FixedPools
puts s id layout = with_last s id (pool_with (layout_for layout) [])

-- how many bytes a block of the pool of an id has
abbrev pub block_size : FixedPools → ℕ → ℕ
block_size s id = unwrap_or (option_map (λ x. x.unit) (state_of s id)) 0

-- whether a block may be out of it behind all that are
abbrev pub may_put_block : FixedPools → (id block : ℕ) → Bool
may_put_block s id block = may_be_out s id block (block_size s id)

-- it is out of it
abbrev pub puts_block : FixedPools → (id block : ℕ) → FixedPools
puts_block s id block = with_out_last s id block (block_size s id)

-- blocks are out of it again, in this order
abbrev pub with_blocks_back : FixedPools → ℕ → List ℕ → Option FixedPools
with_blocks_back s id [] = Some s
with_blocks_back s id (block ∷ blocks) =
    if may_put_block s id block then with_blocks_back (puts_block s id block) id blocks else None

-- a pool is live again, with the blocks that were out of it and those that waited for it
abbrev pub with_pool_back : FixedPools → Object Pool ⊤ → Option FixedPools
with_pool_back s o =
    if may_put s o.id (layout_of o.state)
    then option_and_then (λ t. with_waiters_back t o.id o.waiters)
    (with_blocks_back (puts s o.id (layout_of o.state)) o.id (blocks_in o.state.ranges))
    else None

-- all that stands in a table is put back into one of no pool
abbrev pub restored : FixedPools → Option FixedPools
restored s = restored_by with_pool_back s

-- each range that is out of a pool is one block
abbrev pub IsInBlocks : Pool → Type 0
IsInBlocks x = All (λ r. r.size ≡ x.unit) x.ranges

-- a pool as it can stand: what holds of every pool, it is laid out as one may be, and each range
-- that is out of it is one block
pub record IsRegular (o : Object Pool ⊤) : Type 0 where
  pub sound : IsPool MOST_BLOCKS o.state
  pub layout : may_stand (layout_of o.state) ≡ true
  pub blocks : IsInBlocks o.state

-- a table of such pools in which ids rise, from the first one on, and no more threads wait than can
pub record AreRegular (s : FixedPools) : Type 0 where
  pub objects : IsRestorable s
  pub pools : All IsRegular s.live
