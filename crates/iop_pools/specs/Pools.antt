-- The pools of memory of one kind that are live, and the threads that wait for their memory
-- (ps2sdk: thvpool, thfpool; the codes are those of its kerr.h). A pool is so many bytes from its
-- base on. What is out of it begins and ends so many units behind the base.
use Rattle.std.specs.Prelude.{ℕ, ◌+◌, ◌*◌, ◌/◌, ◌==◌, nat_le, Bool, true, false, if◌then◌else◌, Option, Some, None, option_map, unwrap_or, List, []}
use Rattle.iop_objects.specs.Objects.{Objects, state_of, with_state}
use Rattle.iop_pools.specs.Ranges.{rounded, with_range, without, is_out, first_free, gaps, greatest, total}
use Rattle.iop_pools.specs.declared.attribute.TheConstants.{BY_PRIORITY}
use Rattle.iop_pools.specs.declared.range.Range.{Range}

-- what is known of a pool
pub record Pool : Type 0 where
  pub attr : ℕ
  -- a word of the guest's own
  pub option : ℕ
  -- the address of its first byte, and how many bytes it has
  pub base : ℕ
  pub size : ℕ
  -- how many bytes a unit has: a block, where all blocks have one size
  pub unit : ℕ
  -- the ranges that are out, in order of their starts
  pub ranges : List Range

abbrev pub Pools : Type 0 → Type 0
Pools W = Objects Pool W

abbrev pub is_attribute : ℕ → Bool
is_attribute attr = nat_le attr BY_PRIORITY

-- whether the threads that wait for it are chosen by their priority
abbrev pub by_priority : Pool → Bool
by_priority x = x.attr == BY_PRIORITY

-- how many units it has
abbrev pub units_of : Pool → ℕ
units_of x = x.size / x.unit

-- how many bytes are taken of it for a size
abbrev pub length_for : Pool → (size : ℕ) → ℕ
length_for x size = rounded x.unit size

-- the least place in it where memory for a size is free
abbrev pub place_for : Pool → (size : ℕ) → Option ℕ
place_for x size = first_free x.base x.unit (units_of x) (length_for x size) x.ranges

-- how many bytes are free between the ranges, from its first byte to its last
abbrev pub gaps_of : Pool → List ℕ
gaps_of x = gaps x.base (x.base + x.size) x.ranges

-- how many bytes are free in all
abbrev pub free_of : Pool → ℕ
free_of x = total (gaps_of x)

-- the size of its greatest free range
abbrev pub greatest_free : Pool → ℕ
greatest_free x = greatest (gaps_of x)

-- the greatest size for which there is room
abbrev pub room_of : Pool → ℕ
room_of x = greatest_free x / x.unit * x.unit

module _ {W : Type 0} (s : Pools W) where
  abbrev pub is_by_priority : ℕ → Bool
  is_by_priority id = unwrap_or (option_map by_priority (state_of s id)) false

  -- other ranges are out of a pool
  abbrev pub with_ranges : (id : ℕ) → Pool → List Range → Pools W
  with_ranges id x ranges = with_state s id (record x { ranges = ranges })

  -- memory for a size is taken at the least place where it is free
  abbrev pub takes_at : (id size : ℕ) → Pool → Option ℕ → Option ℕ × Pools W
  takes_at id size x None = (None, s)
  takes_at id size x (Some place) = (
    Some place,
    with_ranges id x (with_range (record { start = place; size = length_for x size }) x.ranges),
  )

  abbrev pub takes_of : (id size : ℕ) → Option Pool → Option ℕ × Pools W
  takes_of id size None = (None, s)
  takes_of id size (Some x) = takes_at id size x (place_for x size)

  abbrev pub takes_place : (id size : ℕ) → Option ℕ × Pools W
  takes_place id size = takes_of id size (state_of s id)

  -- the ranges of the pool of an id
  abbrev pub ranges_in : ℕ → List Range
  ranges_in id = unwrap_or (option_map (λ x. x.ranges) (state_of s id)) []

  -- whether one of them starts at an address
  abbrev pub has_out : (id block : ℕ) → Bool
  has_out id block = is_out block (ranges_in id)

  -- it is out no more; whether there was one
  abbrev pub frees_it : (id block : ℕ) → Option Pool → Option Bool × Pools W
  frees_it id block None = (None, s)
  frees_it id block (Some x) =
      if is_out block x.ranges then (Some true, with_ranges id x (without block x.ranges))
      else (Some false, s)

  abbrev pub frees : (id block : ℕ) → Option Bool × Pools W
  frees id block = frees_it id block (state_of s id)
