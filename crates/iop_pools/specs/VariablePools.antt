-- Variable pools (ps2sdk: thvpool.h; the codes are those of its kerr.h). Which sizes are accepted,
-- that they are rounded up to 16 bytes, the place that is taken, and that a thread whose size fits
-- is answered before earlier ones whose size does not, is this project's own profile.
use Rattle.std.specs.Prelude.{ℕ, ◌==◌, nat_lt, Bool, ◌||◌, not, if◌then◌else◌, is_some, Option, Some, None, Result, Ok, Err, []}
use Rattle.iop_base.specs.declared.code.Code.{Code}
use Rattle.iop_base.specs.declared.code.TheConstants.Code.{OK, NO_MEMORY, ILLEGAL_ATTRIBUTE, UNKNOWN_VARIABLE_POOL, ILLEGAL_BLOCK, ILLEGAL_SIZE}
use Rattle.iop_objects.specs.Objects as objects
use Rattle.iop_objects.specs.Objects.{state_of, waiters_of, takes_next_where}
use Rattle.iop_objects.specs.declared.waiter.Waiter.{Waiter}
use Rattle.iop_pools.specs.Pools.{Pool, Pools, is_attribute, by_priority, place_for, free_of, greatest_free, takes_place, frees}
use Rattle.iop_pools.specs.Ranges.{rounded}
use Rattle.iop_pools.specs.declared.met.Met.{Met}
use Rattle.iop_pools.specs.declared.variable_pool.TheConstants.{VARIABLE_UNIT, LEAST_BYTES, MOST_BYTES}
use Rattle.iop_pools.specs.declared.variable_pool.VariablePool.{VariablePool}

-- the variable pools that are live; a waiter asks for so many bytes
abbrev pub VariablePools : Type 0
VariablePools = Pools ℕ

-- how many bytes a pool of a size has
abbrev pub pool_length : ℕ → ℕ
pool_length size = rounded VARIABLE_UNIT size

abbrev pub bytes : (attr size : ℕ) → Result ℕ Code
bytes attr size =
    if not (is_attribute attr) then Err ILLEGAL_ATTRIBUTE
    else if nat_lt size LEAST_BYTES || nat_lt MOST_BYTES size then Err ILLEGAL_SIZE
    else Ok (pool_length size)

-- the place in a pool for a size that is not 0
abbrev pub place_of : Pool → ℕ → Option ℕ
place_of x size = if size == 0 then None else place_for x size

-- whether a thread that waits can be answered
abbrev pub fits : Pool → Waiter ℕ → Bool
fits x waiter = is_some (place_of x waiter.wants)

-- what is known of a pool
abbrev pub status_of : Pool → VariablePool
status_of x = record {
  attr = x.attr;
  option = x.option;
  base = x.base;
  size = x.size;
  free = free_of x;
  greatest = greatest_free x;
}

module _ (s : VariablePools) where
  -- a pool is made
  abbrev pub creates : (attr option size base : ℕ) → Result ℕ Code × VariablePools
  creates attr option size base = objects.creates s (record {
    attr = attr;
    option = option;
    base = base;
    size = pool_length size;
    unit = VARIABLE_UNIT;
    ranges = [];
  })

  -- a pool is deleted
  abbrev pub deletes_it : ℕ → Option Pool → Code × VariablePools
  deletes_it id None = (UNKNOWN_VARIABLE_POOL, s)
  deletes_it id (Some x) = (OK, objects.deletes s id)

  abbrev pub deletes : ℕ → Code × VariablePools
  deletes id = deletes_it id (state_of s id)

  -- memory is taken
  abbrev pub taken : Option ℕ × VariablePools → Result ℕ Code × VariablePools
  taken (None, left) = (Err NO_MEMORY, left)
  taken (Some place, left) = (Ok place, left)

  abbrev pub takes_it : (id size : ℕ) → Option Pool → Result ℕ Code × VariablePools
  takes_it id size None = (Err UNKNOWN_VARIABLE_POOL, s)
  takes_it id size (Some x) =
      if size == 0 || nat_lt x.size size then (Err ILLEGAL_SIZE, s)
      else taken (takes_place s id size)

  abbrev pub takes : (id size : ℕ) → Result ℕ Code × VariablePools
  takes id size = takes_it id size (state_of s id)

  -- memory is given back
  abbrev pub given : Option Bool × VariablePools → Code × VariablePools
  given (None, left) = (UNKNOWN_VARIABLE_POOL, left)
  given (Some was_out, left) = (if was_out then OK else ILLEGAL_BLOCK, left)

  abbrev pub gives : (id block : ℕ) → Code × VariablePools
  gives id block = given (frees s id block)

  -- a thread waits for memory: for a size that is rounded up
  abbrev pub waits : (id thread priority size : ℕ) → VariablePools
  waits id thread priority size = objects.waits s id (record {
    priority = priority;
    item = record { thread = thread; wants = pool_length size };
  })

-- the first thread that waits and whose size then fits waits no more, and its memory is out
abbrev pub answered : Waiter ℕ → Option ℕ × VariablePools → Option Met × VariablePools
answered waiter (None, left) = (None, left)
answered waiter (Some place, left) =
    (Some (record { thread = waiter.thread; block = place }), left)

module _ (s : VariablePools) where
  abbrev pub meets_by : ℕ → Option (Waiter ℕ) × VariablePools → Option Met × VariablePools
  meets_by id (None, left) = (None, s)
  meets_by id (Some waiter, left) =
      answered waiter (takes_place left id waiter.wants)

  abbrev pub meets_it : ℕ → Option Pool → Option Met × VariablePools
  meets_it id None = (None, s)
  meets_it id (Some x) = meets_by id (takes_next_where s id (by_priority x) (fits x))

  abbrev pub meets_next : ℕ → Option Met × VariablePools
  meets_next id = meets_it id (state_of s id)
