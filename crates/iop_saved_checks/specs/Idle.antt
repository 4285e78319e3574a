-- Whether there is nothing to be had for those that wait for an object: this project's own profile.
use Rattle.std.specs.Prelude.{◌==◌, nat_lt, Bool, true, ◌||◌, not, Option, Some, None, List, length}
use Rattle.std.specs.List.{list_all}
use Rattle.iop_event.specs.WakeConditions.{is_met}
use Rattle.iop_kernel.specs.Kinds.{State, Wants}
use Rattle.iop_objects.specs.declared.waiter.Waiter.{Waiter}
use Rattle.iop_pools.specs.FixedPools.{status_of}
use Rattle.iop_pools.specs.Pools.{greatest_free}
use Rattle.iop_queues.specs.declared.queued.Queued.{Queued}
use Rattle.iop_thread.specs.declared.kind.Kind.{Kind}
use Rattle.iop_thread.specs.declared.kind.Kind.TheVariants.{Semaphore, EventFlag, Mailbox, VariablePool, FixedPool}

-- the count of a semaphore is 0, a mailbox has no message, no condition holds on the pattern of an
-- event flag, no free range of a variable pool has as many bytes as are asked for, and no block of
-- a fixed pool is free
abbrev pub is_idle : (kind : Kind) → State kind → List (Queued (Waiter (Wants kind))) → Bool
is_idle Semaphore x waiters = length waiters == 0 || x.count == 0
is_idle EventFlag x waiters = list_all (λ w. not (is_met x.pattern w.item)) waiters
is_idle Mailbox x waiters = length waiters == 0 || length x.messages == 0
is_idle VariablePool x waiters = list_all (λ w. nat_lt (greatest_free x) w.item.wants) waiters
is_idle FixedPool x waiters = length waiters == 0 || (status_of x).free == 0

-- so it is of the object of an id, if there is one
abbrev pub is_idle_where : (kind : Kind) → Option (State kind)
    → List (Queued (Waiter (Wants kind))) → Bool
is_idle_where kind None waiters = true
is_idle_where kind (Some x) waiters = is_idle kind x waiters
