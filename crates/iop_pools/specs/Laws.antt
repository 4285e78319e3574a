-- What the laws of pools say.
use Rattle.std.specs.Prelude.{◌≡◌, ℕ, ◌+◌, ◌<◌, ◌≤◌, ◌⊎◌, true, false, ◌==◌, if◌then◌else◌, find, map, Option, List, Some, None, Ok, All, AllPairs}
use Rattle.iop_objects.specs.Laws.{GivesNoId}
use Rattle.iop_objects.specs.Objects.{AreObjects, state_of}
use Rattle.iop_pools.specs.FixedPools as fixed_pools
use Rattle.iop_pools.specs.FixedPools.{FixedPools}
use Rattle.iop_pools.specs.Pools.{Pool, Pools, length_for, place_for, free_of, greatest_free, takes_place, frees}
use Rattle.iop_pools.specs.Ranges.{end_of, is_out, without, total}
use Rattle.iop_pools.specs.declared.range.Range.{Range}
use Rattle.iop_pools.specs.VariablePools as variable_pools
use Rattle.iop_pools.specs.VariablePools.{VariablePools}
use Rattle.iop_pools.specs.Standing.{IsPlace, IsPool}

-- the ranges that are out of a pool: none is empty, each ends where a later one begins or before,
-- and all are inside of the pool
pub record Apart (x : Pool) : Type 0 where
  pub some : All (λ r. 0 < r.size) x.ranges
  pub disjoint : AllPairs (λ a b. end_of a ≤ b.start) x.ranges
  pub inside : All (λ r. (x.base ≤ r.start) × (end_of r ≤ x.base + x.size)) x.ranges

-- so many bytes at a place are inside of a pool and meet no range that is out
pub record IsFree (x : Pool) (len place : ℕ) : Type 0 where
  pub inside : place + len ≤ x.base + x.size
  pub apart : All (λ r. (end_of r ≤ place) ⊎ (place + len ≤ r.start)) x.ranges

-- the memory that is taken for a size was free, begins so many units behind the base, and is not
-- free at any place before
pub record TakesLeast (x : Pool) (size place : ℕ) : Type 0 where
  pub free : IsFree x (length_for x size) place
  pub units : IsPlace x.base x.unit place
  pub least : (other : ℕ) → IsPlace x.base x.unit other → IsFree x (length_for x size) other
      → place ≤ other

-- so many bytes are free at a place of the pool, and more are free at none
pub record IsMostFree (x : Pool) (len : ℕ) : Type 0 where
  pub place : ℕ
  pub behind : x.base ≤ place
  pub free : IsFree x len place
  pub most : (other at : ℕ) → x.base ≤ at → IsFree x other at → other ≤ len

-- it does not fit where it is free at no place
abbrev pub IsFull : Pool → ℕ → Type 0
IsFull x size =
    (place : ℕ) → IsPlace x.base x.unit place → IsFree x (length_for x size) place → ⊥

-- the range that is out and starts at an address
abbrev pub range_of : (block : ℕ) → List Range → Option Range
range_of block ranges = find (λ r. r.start == block) ranges

-- where the range that starts at an address is given back, all of its bytes are free
pub record IsFreed (x : Pool) (block : ℕ) : Type 0 where
  pub range : Range
  pub is : range_of block x.ranges ≡ Some range
  pub start : range.start ≡ block
  pub some : 0 < range.size
  pub free : IsFree (record x { ranges = without block x.ranges }) range.size block

pub record PoolsAreApart : Type 0 where
  pub apart : (most : ℕ) (x : Pool) → IsPool most x → Apart x
  pub takes : (most : ℕ) (x : Pool) → IsPool most x → (size place : ℕ) → 0 < size
      → place_for x size ≡ Some place → TakesLeast x size place
  pub full : (most : ℕ) (x : Pool) → IsPool most x → (size : ℕ) → 0 < size
      → place_for x size ≡ None → IsFull x size
  pub freed : (most : ℕ) (x : Pool) → IsPool most x → (block : ℕ)
      → is_out block x.ranges ≡ true → IsFreed x block
  pub greatest : (most : ℕ) (x : Pool) → IsPool most x → IsMostFree x (greatest_free x)

-- a call on the memory of a pool changes that pool alone
pub record ChangeOne {W : Type 0} (s : Pools W) : Type 0 where
  pub takes : (id size : ℕ) → GivesNoId id s (takes_place s id size).1
  pub frees : (id block : ℕ) → GivesNoId id s (frees s id block).1

-- a block that is given back while a thread waits goes to it, and stays out: the pool is as it was
abbrev pub HandsOn : FixedPools → Type 0
HandsOn s =
    (id block thread : ℕ) → (fixed_pools.gives s id block).0 ≡ Ok (Some thread)
    → state_of (fixed_pools.gives s id block).1 id ≡ state_of s id

pub record VariableChangeOne (s : VariablePools) : Type 0 where
  pub takes : (id size : ℕ) → GivesNoId id s (variable_pools.takes s id size).1
  pub gives : (id block : ℕ) → GivesNoId id s (variable_pools.gives s id block).1
  pub meets_next : (id : ℕ) → GivesNoId id s (variable_pools.meets_next s id).1

pub record FixedChangeOne (s : FixedPools) : Type 0 where
  pub takes : (id : ℕ) → GivesNoId id s (fixed_pools.takes s id).1
  pub gives : (id block : ℕ) → GivesNoId id s (fixed_pools.gives s id block).1

pub record PoolsChangeOne : Type 0 where
  pub variable : (s : VariablePools) → AreObjects s → ChangeOne s
  pub variable_calls : (s : VariablePools) → AreObjects s → VariableChangeOne s
  pub fixed : (s : FixedPools) → AreObjects s → ChangeOne s
  pub fixed_calls : (s : FixedPools) → AreObjects s → FixedChangeOne s
  pub hands_on : (s : FixedPools) → AreObjects s → HandsOn s

-- of a pool nothing changes but its ranges
pub record ChangesRanges (old : Pool) (now : Option Pool) : Type 0 where
  pub new : Pool
  pub is : now ≡ Some new
  pub rest : new ≡ record old { ranges = new.ranges }

-- what is taken is out then, and all that was out
pub record IsTakenOf (old : Pool) (size place : ℕ) (now : Option Pool) : Type 0 where
  pub changes : ChangesRanges old now
  pub ranges : (block : ℕ) → range_of block changes.new.ranges
      ≡ (if place == block then Some (record { start = place; size = length_for old size })
      else range_of block old.ranges)

-- what is given back is not out then, and all else that was
pub record IsGivenBack (old : Pool) (block : ℕ) (now : Option Pool) : Type 0 where
  pub changes : ChangesRanges old now
  pub ranges : (other : ℕ) → range_of other changes.new.ranges
      ≡ (if block == other then None else range_of other old.ranges)

-- what a call on memory leaves of the ranges of its pool
pub record TellsRanges {W : Type 0} (s : Pools W) : Type 0 where
  pub taken : (id size place : ℕ) (x : Pool) → state_of s id ≡ Some x
      → place_for x size ≡ Some place
      → ((takes_place s id size).0 ≡ Some place)
      × IsTakenOf x size place (state_of (takes_place s id size).1 id)
  pub not_taken : (id size : ℕ) → (takes_place s id size).0 ≡ None
      → (takes_place s id size).1 ≡ s
  pub given_back : (most id block : ℕ) (x : Pool) → state_of s id ≡ Some x → IsPool most x
      → is_out block x.ranges ≡ true → IsGivenBack x block (state_of (frees s id block).1 id)
  pub not_given_back : (id block : ℕ) (x : Pool) → state_of s id ≡ Some x
      → is_out block x.ranges ≡ false → (frees s id block).1 ≡ s

pub record MemoryIsOut : Type 0 where
  -- what is free and what is out is the whole pool
  pub counted : (most : ℕ) (x : Pool) → IsPool most x
      → free_of x + total (map (λ r. r.size) x.ranges) ≡ x.size
  pub variable : (s : VariablePools) → TellsRanges s
  pub fixed : (s : FixedPools) → TellsRanges s
