-- That no wait is overdue, at all times: a law of the services.
use Rattle.std.specs.Prelude.{◌≡◌, ℕ, Some, None, List, [], ◌⊎◌, All}
use Rattle.iop_event.specs.Laws as flags
use Rattle.iop_objects.specs.Objects.{state_of, waiters_of}
use Rattle.iop_pools.specs.Pools.{place_for}
use Rattle.iop_pools.specs.VariablePools.{place_of}
use Rattle.iop_queues.specs.declared.queued.Queued.{Queued}
use Rattle.iop_objects.specs.declared.waiter.Waiter.{Waiter}
use Rattle.iop_thread.specs.Laws.{SleepersAreUnwoken}
use Rattle.iop_thread.specs.declared.kind.Kind.{Kind}
use Rattle.iop_thread.specs.declared.kind.Kind.TheVariants.{Semaphore, EventFlag, Mailbox, VariablePool, FixedPool}
use Rattle.iop_time.specs.Laws.{NoneHasCome}
use Rattle.iop_kernel.specs.Kinds.{State, Wants, Table, table}
use Rattle.iop_kernel.specs.System.{Kernel}

-- threads wait for an object only where there is nothing to be had: the count of a semaphore is 0,
-- a mailbox has no message, no condition holds on the pattern of an event flag, no size fits in a
-- variable pool, and no block of a fixed pool is free
abbrev pub IsIdle : (kind : Kind) → State kind → List (Queued (Waiter (Wants kind))) → Type 0
IsIdle Semaphore x waiters = (waiters ≡ []) ⊎ (x.count ≡ 0)
IsIdle EventFlag x waiters = flags.NoneOverdue x.pattern waiters
IsIdle Mailbox x waiters = (waiters ≡ []) ⊎ (x.messages ≡ [])
IsIdle VariablePool x waiters = All (λ w. place_of x w.item.wants ≡ None) waiters
IsIdle FixedPool x waiters = (waiters ≡ []) ⊎ (place_for x x.unit ≡ None)

abbrev pub AreIdle : (kind : Kind) → Table kind → Type 0
AreIdle kind s =
    (id : ℕ) (x : State kind) → state_of s id ≡ Some x → IsIdle kind x (waiters_of s id)

-- no alarm and no delay has come: so it is wherever a thread executes an instruction, with
-- interrupts on, that stands in no slot
abbrev pub NoMomentHasCome : Kernel → Type 0
NoMomentHasCome k = NoneHasCome k.timers k.clock

pub record NoneOverdue (k : Kernel) : Type 0 where
  pub objects : (kind : Kind) → AreIdle kind (table kind k)
  -- a thread that sleeps has no wakeups
  pub sleepers : SleepersAreUnwoken k.threads
