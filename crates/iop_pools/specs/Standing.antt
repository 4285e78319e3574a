-- How the program's tables stand for the pools: the ranges that are out of all pools stand in one
-- list, each with the id of its pool.
use Rattle.std.specs.Prelude.{◌≡◌, ℕ, ◌+◌, ◌*◌, ◌^◌, ◌<◌, ◌≤◌, ◌==◌, true, is_some, Some, List, [], ◌∷◌, map, filter, All}
use Rattle.iop_objects.specs.Objects.{Object, Objects, object_of, state_of}
use Rattle.iop_pools.specs.Pools.{Pool, Pools}
use Rattle.iop_pools.specs.Ranges.{end_of}
use Rattle.iop_pools.specs.declared.out.Out.{Out}
use Rattle.iop_pools.specs.declared.layout.Layout.{Layout}
use Rattle.iop_pools.specs.declared.range.Range.{Range}
use Rattle.iop_pools.specs.declared.variable_pool.TheConstants.{VARIABLE_UNIT, MOST_BYTES}

-- the ranges of the pool of an id
abbrev pub ranges_of : ℕ → List Out → List Range
ranges_of id outs = map (λ o. o.range) (filter (λ o. o.pool == id) outs)

abbrev pub pool_with : Layout → List Range → Pool
pool_with x ranges = record {
  attr = x.attr;
  option = x.option;
  base = x.base;
  size = x.size;
  unit = x.unit;
  ranges = ranges;
}

-- all of it but the ranges
abbrev pub layout_of : Pool → Layout
layout_of x =
    record { attr = x.attr; option = x.option; base = x.base; size = x.size; unit = x.unit }

module _ {W : Type 0} where
  abbrev pub pool_in : List Out → Object Layout W → Object Pool W
  pool_in outs o =
      record { id = o.id; state = pool_with o.state (ranges_of o.id outs); waiters = o.waiters }

  abbrev pub pools_in : Objects Layout W → List Out → Pools W
  pools_in objects outs =
      record { live = map (pool_in outs) objects.live; next = objects.next }

-- ranges from a place on to an end, none of which meets the one behind it
abbrev pub AreInOrder : (from end : ℕ) → List Range → Type 0
AreInOrder from end [] = from ≤ end
AreInOrder from end (r ∷ rs) =
    (from ≤ r.start) × (0 < r.size) × AreInOrder (end_of r) end rs

-- a range that ends inside of a pool
abbrev pub EndsInside : Layout → Range → Type 0
EndsInside x r = (x.base ≤ end_of r) × (end_of r ≤ x.base + x.size)

-- so many units behind the base
abbrev pub IsPlace : (base unit place : ℕ) → Type 0
IsPlace base unit place = (k : ℕ) × (place ≡ base + k * unit)

-- each range begins and ends there
abbrev pub ArePlaced : (base unit : ℕ) → List Range → Type 0
ArePlaced base unit [] = Unit {0}
ArePlaced base unit (r ∷ rs) =
    IsPlace base unit r.start × IsPlace base unit (end_of r) × ArePlaced base unit rs

-- a number of bytes that is so many units, and not 0
abbrev pub IsLength : (unit len : ℕ) → Type 0
IsLength unit len = (0 < len) × ((k : ℕ) × (len ≡ k * unit))

-- what always holds of a pool that has at most so many units
pub record IsPool (most : ℕ) (x : Pool) : Type 0 where
  pub unit : 0 < x.unit
  pub units : ℕ
  pub size : x.size ≡ units * x.unit
  pub few : units ≤ most
  pub inside : x.base + x.size < 2 ^ 32
  pub order : AreInOrder x.base (x.base + x.size) x.ranges
  pub placed : ArePlaced x.base x.unit x.ranges

-- what always holds of the pools
abbrev pub ArePools : {W : Type 0} → (most : ℕ) → Pools W → Type 0
ArePools most s = All (λ o. IsPool most o.state) s.live

-- what always holds of a variable pool
pub record IsVariable (x : Pool) : Type 0 where
  pub unit : x.unit ≡ VARIABLE_UNIT
  pub most : x.size ≤ MOST_BYTES

abbrev pub AreVariable : {W : Type 0} → Pools W → Type 0
AreVariable s = (id : ℕ) (x : Pool) → state_of s id ≡ Some x → IsVariable x

-- what holds of every table
pub record IsTable {W : Type 0} (objects : Objects Layout W) (outs : List Out) (most : ℕ) : Type 0
  where
    pub pools : ArePools most (pools_in objects outs)
    -- each range that is out is one of a live pool
    pub owned : All (λ o. is_some (object_of objects.live o.pool) ≡ true) outs
    -- and none of one that is still to be made
    pub given : All (λ o. o.pool < objects.next) outs
