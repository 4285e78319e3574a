-- What the law of pools that stay as they can stand says.
use Rattle.std.specs.Prelude.{◌≡◌, ℕ, ◌+◌, ◌^◌, ◌<◌, ◌≤◌, true, Some, Ok}
use Rattle.iop_objects.specs.Objects.{no_objects, state_of, waiting, takes_next, drops, requeues}
use Rattle.iop_objects.specs.Restoring.{may_be_next, may_wait, with_next}
use Rattle.iop_objects.specs.declared.objects.TheConstants.{MOST_WAITERS}
use Rattle.iop_pools.specs.FixedPools as fixed_pools
use Rattle.iop_pools.specs.FixedPools.{FixedPools}
use Rattle.iop_pools.specs.FixedRestoring as fixed
use Rattle.iop_pools.specs.Pools.{Pool, length_for, is_by_priority}
use Rattle.iop_pools.specs.Restoring.{may_be_base, may_be_out, with_out_last}
use Rattle.iop_pools.specs.VariablePools as variable_pools
use Rattle.iop_pools.specs.VariablePools.{VariablePools, place_of, pool_length}
use Rattle.iop_pools.specs.VariableRestoring as variable
use Rattle.iop_pools.specs.declared.fixed_layout.FixedLayout.{FixedLayout}
use Rattle.iop_pools.specs.declared.variable_layout.VariableLayout.{VariableLayout}

-- each call keeps variable pools as they can stand
pub record VariableStay (s : VariablePools) : Type 0 where
  -- one is made of a size that it can have, where a pool can begin, and ends below 2^32
  pub creates : (attr option size length base : ℕ) → variable_pools.bytes attr size ≡ Ok length
      → may_be_base base ≡ true → base + length < 2 ^ 32
      → variable.AreRegular (variable_pools.creates s attr option size base).1
  pub deletes : (id : ℕ) → variable.AreRegular (variable_pools.deletes s id).1
  pub takes : (id size : ℕ) → variable.AreRegular (variable_pools.takes s id size).1
  -- a thread waits for a size that the pool can have, where there is room for it
  pub waits : (id thread priority size : ℕ) → waiting s < MOST_WAITERS → 0 < size
      → ((x : Pool) → state_of s id ≡ Some x → size ≤ x.size)
      → variable.AreRegular (variable_pools.waits s id thread priority size)
  pub gives : (id block : ℕ) → variable.AreRegular (variable_pools.gives s id block).1
  pub meets_next : (id : ℕ) → variable.AreRegular (variable_pools.meets_next s id).1
  pub takes_next : (id : ℕ) → variable.AreRegular (takes_next s id (is_by_priority s id)).1
  pub drops : (id thread : ℕ) → variable.AreRegular (drops s id thread)
  pub requeues : (id thread priority : ℕ)
      → variable.AreRegular (requeues s id (is_by_priority s id) thread priority)
  -- what is put back
  pub puts : (id : ℕ) (layout : VariableLayout) → variable.may_put s id layout ≡ true
      → variable.AreRegular (variable.puts s id layout)
  pub puts_range : (id start size : ℕ) → may_be_out s id start size ≡ true
      → variable.AreRegular (with_out_last s id start size)
  pub puts_waiter : (id thread priority size : ℕ) → variable.may_put_waiter s id size ≡ true
      → variable.AreRegular (variable.puts_waiter s id thread priority size)
  pub with_next : (id : ℕ) → may_be_next s id ≡ true → variable.AreRegular (with_next s id)

-- that a size is rounded up changes neither where it fits nor how many bytes are taken for it
pub record IsRoundedAlike (x : Pool) (size : ℕ) : Type 0 where
  pub length : length_for x (pool_length size) ≡ length_for x size
  pub place : place_of x (pool_length size) ≡ place_of x size

-- each call keeps fixed pools as they can stand
pub record FixedStay (s : FixedPools) : Type 0 where
  pub creates : (attr option size count length base : ℕ)
      → fixed_pools.bytes attr size count ≡ Ok length
      → may_be_base base ≡ true → base + length < 2 ^ 32
      → fixed.AreRegular (fixed_pools.creates s attr option size count base).1
  pub deletes : (id : ℕ) → fixed.AreRegular (fixed_pools.deletes s id).1
  pub takes : (id : ℕ) → fixed.AreRegular (fixed_pools.takes s id).1
  pub waits : (id thread priority : ℕ) → waiting s < MOST_WAITERS
      → fixed.AreRegular (fixed_pools.waits s id thread priority)
  pub gives : (id block : ℕ) → fixed.AreRegular (fixed_pools.gives s id block).1
  pub takes_next : (id : ℕ) → fixed.AreRegular (takes_next s id (is_by_priority s id)).1
  pub drops : (id thread : ℕ) → fixed.AreRegular (drops s id thread)
  pub requeues : (id thread priority : ℕ)
      → fixed.AreRegular (requeues s id (is_by_priority s id) thread priority)
  pub puts : (id : ℕ) (layout : FixedLayout) → fixed.may_put s id layout ≡ true
      → fixed.AreRegular (fixed.puts s id layout)
  pub puts_block : (id block : ℕ) → fixed.may_put_block s id block ≡ true
      → fixed.AreRegular (fixed.puts_block s id block)
  pub puts_waiter : (id thread priority : ℕ) → may_wait s id ≡ true
      → fixed.AreRegular (fixed_pools.waits s id thread priority)
  pub with_next : (id : ℕ) → may_be_next s id ≡ true → fixed.AreRegular (with_next s id)

-- tables of no pool are so
pub record PoolsStayRegular : Type 0 where
  pub no_variable : variable.AreRegular no_objects
  pub variable_calls : (s : VariablePools) → variable.AreRegular s → VariableStay s
  pub rounded : (s : VariablePools) → variable.AreRegular s → (id size : ℕ) (x : Pool)
      → state_of s id ≡ Some x → IsRoundedAlike x size
  pub no_fixed : fixed.AreRegular no_objects
  pub fixed_calls : (s : FixedPools) → fixed.AreRegular s → FixedStay s
