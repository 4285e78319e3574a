-- How pools are put back, one behind the other, into a table of none: those that were live, in the
-- order of their ids, and of each what was out of it, in the order of the places, and the threads
-- that waited for it, in the order of their arrival. It is this project's own profile.
use Rattle.std.specs.Prelude.{ℕ, ◌+◌, ◌-◌, ◌%◌, ◌==◌, nat_le, nat_lt, Bool, false, ◌&&◌, if◌then◌else◌, Option, Some, None, option_map, option_and_then, unwrap_or, List, [], ◌∷◌, ◌++◌}
use Rattle.iop_base.specs.declared.blocks.TheConstants.{BLOCK_UNIT}
use Rattle.iop_objects.specs.Objects.{Object, no_objects, state_of, changes}
use Rattle.iop_objects.specs.Restoring.{with_next_back}
use Rattle.iop_pools.specs.Pools.{Pool, Pools}
use Rattle.iop_pools.specs.Ranges.{end_of}
use Rattle.iop_pools.specs.Standing.{layout_of}
use Rattle.iop_pools.specs.declared.layout.Layout.{Layout}
use Rattle.iop_pools.specs.declared.layout.TheConstants.{FIRST_BASE}
use Rattle.iop_pools.specs.declared.range.Range.{Range}

-- whether the memory of a pool may begin at an address: where a block of RAM can that is behind the
-- kernel's own
abbrev pub may_be_base : ℕ → Bool
may_be_base base = nat_le FIRST_BASE base && base % BLOCK_UNIT == 0

-- where the last of some ranges ends, or, where there is none, the place that they begin from
abbrev pub last_end : (from : ℕ) → List Range → ℕ
last_end from [] = from
last_end from (r ∷ rs) = last_end (end_of r) rs

-- whether so many bytes are units of a pool, one at least, that are not before a place
abbrev pub lies_from : Layout → (from start size : ℕ) → Bool
lies_from x from start size =
    nat_le from start && (start - x.base) % x.unit == 0 && nat_lt 0 size && size % x.unit == 0
    && nat_le (start + size) (x.base + x.size)

-- whether they may be out of it behind all that is
abbrev pub may_be_last : (start size : ℕ) → Pool → Bool
may_be_last start size x = lies_from (layout_of x) (last_end x.base x.ranges) start size

-- they are out of it
abbrev pub with_last_range : (start size : ℕ) → Pool → Pool
with_last_range start size x =
    record x { ranges = x.ranges ++ record { start = start; size = size } ∷ [] }

module _ {W : Type 0} where
  -- whether a pool of this id is live, of which a test holds
  abbrev pub holds_of : Pools W → (id : ℕ) → (Pool → Bool) → Bool
  holds_of s id test = unwrap_or (option_map test (state_of s id)) false

  -- whether so many bytes may be out of the pool of this id behind all that is
  abbrev pub may_be_out : Pools W → (id start size : ℕ) → Bool
  may_be_out s id start size = holds_of s id (may_be_last start size)

  -- they are out of it
  abbrev pub with_out_last : Pools W → (id start size : ℕ) → Pools W
  with_out_last s id start size =
      changes s id (λ o. record o { state = with_last_range start size o.state })

  -- ranges are out of it again, in this order
  abbrev pub with_ranges_back : Pools W → ℕ → List Range → Option (Pools W)
  with_ranges_back s id [] = Some s
  with_ranges_back s id (r ∷ rs) =
      if may_be_out s id r.start r.size
      then with_ranges_back (with_out_last s id r.start r.size) id rs
      else None

  -- pools are live again, in this order, each in one way
  abbrev pub with_pools_back : (Pools W → Object Pool W → Option (Pools W)) → Pools W
      → List (Object Pool W) → Option (Pools W)
  with_pools_back with_pool_back s [] = Some s
  with_pools_back with_pool_back s (o ∷ os) =
      option_and_then (λ t. with_pools_back with_pool_back t os) (with_pool_back s o)

  -- all that stands in a table is put back into one of no pool
  abbrev pub restored_by : (Pools W → Object Pool W → Option (Pools W)) → Pools W
      → Option (Pools W)
  restored_by with_pool_back s =
      option_and_then (λ t. with_next_back t s.next)
      (with_pools_back with_pool_back no_objects s.live)
