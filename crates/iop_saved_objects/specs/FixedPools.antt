-- How fixed pools are spelled, and put back. This project's own profile.
use Rattle.std.specs.Prelude.{ℕ, ⊤, if◌then◌else◌, Option, Some, None, List, [], ◌∷◌, slice_index, map}
use Rattle.iop_objects.specs.Objects.{Object, waits}
use Rattle.iop_objects.specs.Restoring.{may_wait}
use Rattle.iop_objects.specs.declared.waiter.Waiter.{Waiter}
use Rattle.iop_pools.specs.FixedPools.{FixedPools}
use Rattle.iop_pools.specs.FixedRestoring.{blocks_in, layout_of, may_put, puts, may_put_block, puts_block}
use Rattle.iop_pools.specs.Pools.{Pool}
use Rattle.iop_pools.specs.declared.fixed_layout.FixedLayout.{FixedLayout}
use Rattle.iop_queues.specs.declared.queued.Queued.{Queued}
use Rattle.iop_snapshot.specs.Forms.{Form, item, seen_as}
use Rattle.iop_snapshot.specs.declared.widths.TheConstants.{FIXED_POOL, POOL_BLOCK}
use Rattle.iop_saved_objects.specs.Lists.{with_list, put_with_list}
use Rattle.iop_saved_objects.specs.Waiters.{plain_form, saved_waiters, put_waiter}
use Rattle.iop_saved_objects.specs.declared.head.Head.{Head}

-- a pool, the addresses of the blocks that are out of it, in rising order, and the threads that
-- wait for it, in order of their arrival
abbrev pub SavedPool : Type 0
SavedPool = (Head FixedLayout × List ℕ) × List (Waiter ⊤)

abbrev pub saved_pool : Object Pool ⊤ → SavedPool
saved_pool o = (
  (record { id = o.id; state = layout_of o.state }, blocks_in o.state.ranges),
  saved_waiters o.waiters,
)

abbrev pub saved_pools : FixedPools → List SavedPool
saved_pools s = map saved_pool s.live

abbrev pub pool_numbers : Head FixedLayout → List ℕ
pool_numbers head =
    let x = head.state in head.id ∷ x.attr ∷ x.option ∷ x.base ∷ x.size ∷ x.count ∷ []

abbrev pub pool_of : List ℕ → Option (Head FixedLayout)
pool_of ns = Some (record {
  id = slice_index ns 0;
  state = record {
    attr = slice_index ns 1;
    option = slice_index ns 2;
    base = slice_index ns 3;
    size = slice_index ns 4;
    count = slice_index ns 5;
  };
})

unfoldable pub pool_head : Form (Head FixedLayout)
pool_head = seen_as (item FIXED_POOL) pool_of pool_numbers

-- the address of a block
abbrev pub block_numbers : ℕ → List ℕ
block_numbers block = block ∷ []

abbrev pub block_of : List ℕ → Option ℕ
block_of ns = Some (slice_index ns 0)

unfoldable pub block_form : Form ℕ
block_form = seen_as (item POOL_BLOCK) block_of block_numbers

unfoldable pub fixed_pool_form : Form SavedPool
fixed_pool_form = with_list (with_list pool_head block_form) plain_form

-- a pool of which nothing is out, and for which no thread waits, is put back behind all others
abbrev pub put_head : FixedPools → Head FixedLayout → Option FixedPools
put_head s head =
    if may_put s head.id head.state then Some (puts s head.id head.state) else None

-- a block is out of the pool of an id again, behind all that are
abbrev pub put_block : ℕ → FixedPools → ℕ → Option FixedPools
put_block id s block = if may_put_block s id block then Some (puts_block s id block) else None

-- a thread waits for the pool of an id again, behind all others
abbrev pub put_queued : ℕ → FixedPools → Queued (Waiter ⊤) → Option FixedPools
put_queued id s queued = if may_wait s id then Some (waits s id queued) else None

-- with the priority that it has
abbrev pub put_thread : (priorities : ℕ → Option ℕ) → Head FixedLayout × List ℕ → FixedPools
    → Waiter ⊤ → Option FixedPools
put_thread priorities pool = put_waiter (put_queued pool.0.id) priorities

abbrev pub put_block_of : Head FixedLayout → FixedPools → ℕ → Option FixedPools
put_block_of head = put_block head.id

-- a pool is put back with the blocks that were out of it
abbrev pub put_taken : FixedPools → Head FixedLayout × List ℕ → Option FixedPools
put_taken = put_with_list put_head put_block_of

-- and with those that waited for it, where threads have these priorities
abbrev pub put_fixed_pool : (priorities : ℕ → Option ℕ) → FixedPools → SavedPool
    → Option FixedPools
put_fixed_pool priorities s saved = put_with_list put_taken (put_thread priorities) s saved
