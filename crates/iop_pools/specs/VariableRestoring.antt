-- How variable pools are put back.
use Rattle.std.specs.Prelude.{◌≡◌, ℕ, ◌+◌, ◌%◌, ◌^◌, ◌==◌, nat_le, nat_lt, Bool, true, ◌&&◌, if◌then◌else◌, Option, Some, None, option_and_then, List, [], ◌∷◌, All}
use Rattle.iop_objects.specs.Objects.{Object, waits}
use Rattle.iop_objects.specs.Restoring.{may_follow, with_last, may_wait, IsRestorable}
use Rattle.iop_objects.specs.declared.waiter.Waiter.{Waiter}
use Rattle.iop_queues.specs.declared.queued.Queued.{Queued}
use Rattle.iop_pools.specs.Pools.{Pool, is_attribute}
use Rattle.iop_pools.specs.Restoring.{may_be_base, holds_of, with_ranges_back, restored_by}
use Rattle.iop_pools.specs.Standing as standing
use Rattle.iop_pools.specs.Standing.{pool_with, IsPool}
use Rattle.iop_pools.specs.VariablePools.{VariablePools}
use Rattle.iop_pools.specs.declared.layout.Layout.{Layout}
use Rattle.iop_pools.specs.declared.variable_layout.VariableLayout.{VariableLayout}
use Rattle.iop_pools.specs.declared.variable_pool.TheConstants.{VARIABLE_UNIT, LEAST_BYTES, MOST_BYTES, MOST_RANGES}

-- how a pool is laid out of which the units are known
abbrev pub layout_in : Layout → VariableLayout
layout_in x = record { attr = x.attr; option = x.option; base = x.base; size = x.size }

abbrev pub layout_of : Pool → VariableLayout
layout_of x = layout_in (standing.layout_of x)

-- the same in units
abbrev pub layout_for : VariableLayout → Layout
layout_for x = record {
  attr = x.attr;
  option = x.option;
  base = x.base;
  size = x.size;
  unit = VARIABLE_UNIT;
}

-- whether a pool may stand that is laid out so: its attribute and its size are ones that a pool can
-- be made with, the size is rounded, and it begins where a pool can and ends below 2^32
abbrev pub may_stand : VariableLayout → Bool
may_stand x =
    is_attribute x.attr && may_be_base x.base && nat_le LEAST_BYTES x.size
    && nat_le x.size MOST_BYTES && x.size % VARIABLE_UNIT == 0 && nat_lt (x.base + x.size) (2 ^ 32)

-- whether a thread may wait for so many bytes of a pool: so many units, and no more than it has
abbrev pub may_be_wanted : ℕ → Pool → Bool
may_be_wanted size x =
    nat_le VARIABLE_UNIT size && size % VARIABLE_UNIT == 0 && nat_le size x.size

-- whether a pool may stand behind all others
abbrev pub may_put : VariablePools → ℕ → VariableLayout → Bool
may_put s id layout = may_stand layout && may_follow s id

-- it stands there, nothing is out of it and no thread waits
abbrev pub puts : VariablePools → ℕ → VariableLayout → VariablePools
puts s id layout = with_last s id (pool_with (layout_for layout) [])

-- whether one more thread may wait for so many bytes
abbrev pub may_put_waiter : VariablePools → (id size : ℕ) → Bool
may_put_waiter s id size = holds_of s id (may_be_wanted size) && may_wait s id

-- it waits, behind all others
abbrev pub puts_waiter : VariablePools → (id thread priority size : ℕ) → VariablePools
puts_waiter s id thread priority size =
    waits s id (record { priority = priority; item = record { thread = thread; wants = size } })

-- threads wait for memory again, in this order
abbrev pub with_waiters_back : VariablePools → ℕ → List (Queued (Waiter ℕ))
    → Option VariablePools
with_waiters_back s id [] = Some s
with_waiters_back s id (w ∷ ws) =
    if may_put_waiter s id w.item.wants
    then with_waiters_back (puts_waiter s id w.item.thread w.priority w.item.wants) id ws
    else None

-- a pool is live again, with what was out of it and those that waited for it
abbrev pub with_pool_back : VariablePools → Object Pool ℕ → Option VariablePools
with_pool_back s o =
    if may_put s o.id (layout_of o.state)
    then option_and_then (λ t. with_waiters_back t o.id o.waiters)
    (with_ranges_back (puts s o.id (layout_of o.state)) o.id o.state.ranges)
    else None

-- all that stands in a table is put back into one of no pool
abbrev pub restored : VariablePools → Option VariablePools
restored s = restored_by with_pool_back s

-- a pool as it can stand: what holds of every pool, it is laid out as one may be, and each thread
-- waits for as many bytes as one may
pub record IsRegular (o : Object Pool ℕ) : Type 0 where
  pub sound : IsPool MOST_RANGES o.state
  pub unit : o.state.unit ≡ VARIABLE_UNIT
  pub layout : may_stand (layout_of o.state) ≡ true
  pub waiters : All (λ w. may_be_wanted w.item.wants o.state ≡ true) o.waiters

-- a table of such pools in which ids rise, from the first one on, and no more threads wait than can
pub record AreRegular (s : VariablePools) : Type 0 where
  pub objects : IsRestorable s
  pub pools : All IsRegular s.live
