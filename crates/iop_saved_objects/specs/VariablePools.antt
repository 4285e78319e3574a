-- How variable pools are spelled, and put back. This project's own profile.
use Rattle.std.specs.Prelude.{ℕ, if◌then◌else◌, Option, Some, None, List, [], ◌∷◌, slice_index, map}
use Rattle.iop_objects.specs.Objects.{Object}
use Rattle.iop_objects.specs.declared.waiter.Waiter.{Waiter}
use Rattle.iop_pools.specs.Pools.{Pool}
use Rattle.iop_pools.specs.Restoring.{may_be_out, with_out_last}
use Rattle.iop_pools.specs.VariablePools.{VariablePools}
use Rattle.iop_pools.specs.VariableRestoring.{layout_of, may_put, puts, may_put_waiter, puts_waiter}
use Rattle.iop_pools.specs.declared.range.Range.{Range}
use Rattle.iop_pools.specs.declared.variable_layout.VariableLayout.{VariableLayout}
use Rattle.iop_queues.specs.declared.queued.Queued.{Queued}
use Rattle.iop_snapshot.specs.Forms.{Form, item, seen_as}
use Rattle.iop_snapshot.specs.declared.widths.TheConstants.{VARIABLE_POOL, POOL_RANGE}
use Rattle.iop_saved_objects.specs.Lists.{with_list, put_with_list}
use Rattle.iop_saved_objects.specs.Waiters.{asking_form, saved_waiters, put_waiter}
use Rattle.iop_saved_objects.specs.declared.head.Head.{Head}

-- a pool, the ranges that are out of it, in order of their starts, and the threads that wait for
-- it, in order of their arrival
abbrev pub SavedPool : Type 0
SavedPool = (Head VariableLayout × List Range) × List (Waiter ℕ)

abbrev pub saved_pool : Object Pool ℕ → SavedPool
saved_pool o = (
  (record { id = o.id; state = layout_of o.state }, o.state.ranges),
  saved_waiters o.waiters,
)

abbrev pub saved_pools : VariablePools → List SavedPool
saved_pools s = map saved_pool s.live

abbrev pub pool_numbers : Head VariableLayout → List ℕ
pool_numbers head =
    let x = head.state in head.id ∷ x.attr ∷ x.option ∷ x.base ∷ x.size ∷ []

abbrev pub pool_of : List ℕ → Option (Head VariableLayout)
pool_of ns = Some (record {
  id = slice_index ns 0;
  state = record {
    attr = slice_index ns 1;
    option = slice_index ns 2;
    base = slice_index ns 3;
    size = slice_index ns 4;
  };
})

unfoldable pub pool_head : Form (Head VariableLayout)
pool_head = seen_as (item VARIABLE_POOL) pool_of pool_numbers

abbrev pub range_numbers : Range → List ℕ
range_numbers range = range.start ∷ range.size ∷ []

abbrev pub range_of : List ℕ → Option Range
range_of ns = Some (record { start = slice_index ns 0; size = slice_index ns 1 })

unfoldable pub range_form : Form Range
range_form = seen_as (item POOL_RANGE) range_of range_numbers

unfoldable pub variable_pool_form : Form SavedPool
variable_pool_form = with_list (with_list pool_head range_form) asking_form

-- a pool of which nothing is out, and for which no thread waits, is put back behind all others
abbrev pub put_head : VariablePools → Head VariableLayout → Option VariablePools
put_head s head =
    if may_put s head.id head.state then Some (puts s head.id head.state) else None

-- a range is out of the pool of an id again, behind all that are
abbrev pub put_range : ℕ → VariablePools → Range → Option VariablePools
put_range id s range =
    if may_be_out s id range.start range.size
    then Some (with_out_last s id range.start range.size)
    else None

-- a thread waits for the pool of an id again, behind all others
abbrev pub put_queued : ℕ → VariablePools → Queued (Waiter ℕ) → Option VariablePools
put_queued id s queued =
    if may_put_waiter s id queued.item.wants
    then Some (puts_waiter s id queued.item.thread queued.priority queued.item.wants)
    else None

-- with the priority that it has
abbrev pub put_thread : (priorities : ℕ → Option ℕ) → Head VariableLayout × List Range
    → VariablePools → Waiter ℕ → Option VariablePools
put_thread priorities pool = put_waiter (put_queued pool.0.id) priorities

abbrev pub put_range_of : Head VariableLayout → VariablePools → Range → Option VariablePools
put_range_of head = put_range head.id

-- a pool is put back with what was out of it
abbrev pub put_taken : VariablePools → Head VariableLayout × List Range → Option VariablePools
put_taken = put_with_list put_head put_range_of

-- and with those that waited for it, where threads have these priorities
abbrev pub put_variable_pool : (priorities : ℕ → Option ℕ) → VariablePools → SavedPool
    → Option VariablePools
put_variable_pool priorities s saved = put_with_list put_taken (put_thread priorities) s saved
