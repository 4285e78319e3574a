-- Fixed pools (ps2sdk: thfpool.h; the codes are those of its kerr.h). A block is a range of one
-- unit. Which sizes and counts are accepted, that sizes are rounded up to 4 bytes, and the block
-- that is taken, is this project's own profile.
use Rattle.std.specs.Prelude.{ℕ, ◌-◌, ◌*◌, ◌==◌, nat_lt, ◌||◌, not, ⊤, if◌then◌else◌, Option, Some, None, Result, Ok, Err, [], length}
use Rattle.iop_base.specs.declared.code.Code.{Code}
use Rattle.iop_base.specs.declared.code.TheConstants.Code.{OK, NO_MEMORY, ILLEGAL_ATTRIBUTE, UNKNOWN_FIXED_POOL, ILLEGAL_BLOCK, ILLEGAL_SIZE}
use Rattle.iop_objects.specs.Objects as objects
use Rattle.iop_objects.specs.Objects.{state_of, waiters_of, takes_next}
use Rattle.iop_objects.specs.declared.waiter.Waiter.{Waiter}
use Rattle.iop_pools.specs.Pools.{Pool, Pools, is_attribute, by_priority, units_of, takes_place, with_ranges}
use Rattle.iop_pools.specs.Ranges.{rounded, is_out, without}
use Rattle.iop_pools.specs.declared.fixed_pool.FixedPool.{FixedPool}
use Rattle.iop_pools.specs.declared.fixed_pool.TheConstants.{FIXED_UNIT, MOST_BLOCK_BYTES, MOST_BLOCKS}

-- the fixed pools that are live; their waiters ask for nothing more than a block
abbrev pub FixedPools : Type 0
FixedPools = Pools ⊤

-- how many bytes a block of a size has
abbrev pub block_for : ℕ → ℕ
block_for size = rounded FIXED_UNIT size

-- how many bytes a pool of so many blocks has
abbrev pub bytes : (attr size count : ℕ) → Result ℕ Code
bytes attr size count =
    if not (is_attribute attr) then Err ILLEGAL_ATTRIBUTE
    else if size == 0 || nat_lt MOST_BLOCK_BYTES size || (count == 0 || nat_lt MOST_BLOCKS count)
    then Err ILLEGAL_SIZE
    else Ok (block_for size * count)

-- what is known of a pool
abbrev pub status_of : Pool → FixedPool
status_of x = record {
  attr = x.attr;
  option = x.option;
  base = x.base;
  size = x.unit;
  count = units_of x;
  free = units_of x - length x.ranges;
}

module _ (s : FixedPools) where
  -- a pool is made
  abbrev pub creates : (attr option size count base : ℕ) → Result ℕ Code × FixedPools
  creates attr option size count base = objects.creates s (record {
    attr = attr;
    option = option;
    base = base;
    size = block_for size * count;
    unit = block_for size;
    ranges = [];
  })

  -- a pool is deleted
  abbrev pub deletes_it : ℕ → Option Pool → Code × FixedPools
  deletes_it id None = (UNKNOWN_FIXED_POOL, s)
  deletes_it id (Some x) = (OK, objects.deletes s id)

  abbrev pub deletes : ℕ → Code × FixedPools
  deletes id = deletes_it id (state_of s id)

  -- a block is taken
  abbrev pub taken : Option ℕ × FixedPools → Result ℕ Code × FixedPools
  taken (None, left) = (Err NO_MEMORY, left)
  taken (Some block, left) = (Ok block, left)

  abbrev pub takes_it : ℕ → Option Pool → Result ℕ Code × FixedPools
  takes_it id None = (Err UNKNOWN_FIXED_POOL, s)
  takes_it id (Some x) = taken (takes_place s id x.unit)

  abbrev pub takes : ℕ → Result ℕ Code × FixedPools
  takes id = takes_it id (state_of s id)

  -- a block is given back: it goes to the next thread that waits, or is free
  abbrev pub gives_to : (id block : ℕ) → Pool → Option (Waiter ⊤) × FixedPools
      → Result (Option ℕ) Code × FixedPools
  gives_to id block x (None, left) = (Ok None, with_ranges s id x (without block x.ranges))
  gives_to id block x (Some waiter, left) = (Ok (Some waiter.thread), left)

  abbrev pub gives_it : (id block : ℕ) → Option Pool → Result (Option ℕ) Code × FixedPools
  gives_it id block None = (Err UNKNOWN_FIXED_POOL, s)
  gives_it id block (Some x) =
      if is_out block x.ranges then gives_to id block x (takes_next s id (by_priority x))
      else (Err ILLEGAL_BLOCK, s)

  abbrev pub gives : (id block : ℕ) → Result (Option ℕ) Code × FixedPools
  gives id block = gives_it id block (state_of s id)

  -- a thread waits for a block
  abbrev pub waits : (id thread priority : ℕ) → FixedPools
  waits id thread priority =
      objects.waits s id
      (record { priority = priority; item = record { thread = thread; wants = tt } })
