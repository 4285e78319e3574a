-- How the services of a kind change what is known of one of its objects, and when.
use Rattle.std.proofs.Common.{◌≡◌, ℕ, ◌+◌, ◌-◌, ◌*◌, ◌==◌, ◌<◌, ◌≤◌, nat_le, nat_lt, true, false, None, Some, List, [], ◌∷◌, ◌++◌}
use Rattle.std.specs.Prelude.{bit_and}
use Rattle.iop_base.specs.declared.code.TheConstants.Code.{OK}
use Rattle.iop_event.specs.EventFlags as flags
use Rattle.iop_event.specs.EventFlags.{with_pattern}
use Rattle.iop_event.specs.WakeConditions.{holds, pattern_after}
use Rattle.iop_event.specs.declared.event_flag.EventFlag as flag
use Rattle.iop_event.specs.declared.wanted.Wanted.{Wanted}
use Rattle.iop_mbx.specs.Mailboxes as mailboxes
use Rattle.iop_mbx.specs.Mailboxes.{Mailboxes, next_message, waiters_by_priority, with_messages}
use Rattle.iop_objects.specs.Objects.{waiters_of}
use Rattle.iop_queues.specs.Queue.{Choice, chooses}
use Rattle.iop_queues.specs.declared.queued.Queued.{Queued}
use Rattle.iop_pools.specs.FixedPools.{FixedPools}
use Rattle.iop_pools.specs.Pools as pools
use Rattle.iop_pools.specs.Pools.{Pool, length_for, place_for}
use Rattle.iop_pools.specs.Ranges.{with_range, without, is_out}
use Rattle.iop_pools.specs.VariablePools.{place_of}
use Rattle.iop_pools.specs.declared.fixed_pool.TheConstants.{MOST_BLOCKS}
use Rattle.iop_pools.specs.declared.range.Range.{Range}
use Rattle.iop_pools.specs.declared.variable_pool.TheConstants.{MOST_RANGES}
use Rattle.iop_sema.specs.Semaphores as semaphores
use Rattle.iop_sema.specs.Semaphores.{Semaphores, by_priority, with_count}
use Rattle.iop_sema.specs.declared.semaphore.Semaphore as semaphore
use Rattle.iop_sysmem.specs.Allocating.{allocating}
use Rattle.iop_sysmem.specs.BlockMap.{BlockMap, freeing}
use Rattle.iop_thread.specs.declared.kind.Kind.{Kind}
use Rattle.iop_thread.specs.declared.kind.Kind.TheVariants.{Semaphore, EventFlag, Mailbox, VariablePool, FixedPool}
use Rattle.iop_kernel.specs.Kinds.{State, Wants, Table}
use Rattle.iop_kernel.specs.System.{code_word}
use Rattle.iop_kernel.specs.declared.pool_services.TheConstants.{FROM_BELOW}

-- a pool of so many units at most, of which nothing is out
pub record IsNew (most : ℕ) (x : Pool) : Type 0 where
  pub none : x.ranges ≡ []
  pub unit : 0 < x.unit
  pub units : ℕ
  pub size : x.size ≡ units * x.unit
  pub few : units ≤ most

-- what is known of an object that is made
abbrev pub IsFirst : (kind : Kind) → State kind → Type 0
IsFirst Semaphore x =
    (semaphores.is_attribute x.attr ≡ true) × (nat_lt x.max x.initial ≡ false)
    × (x.count ≡ x.initial)
IsFirst EventFlag x = (flags.is_attribute x.attr ≡ true) × (x.pattern ≡ x.first)
IsFirst Mailbox x = (mailboxes.is_attribute x.attr ≡ true) × (x.messages ≡ [])
IsFirst VariablePool x = IsNew MOST_RANGES x
IsFirst FixedPool x = IsNew MOST_BLOCKS x

-- a pool has a block of its own
pub record TakesBlock (x : Pool) (old new : BlockMap) : Type 0 where
  pub some : (x.base == 0) ≡ false
  pub taken : allocating old FROM_BELOW x.size 0 ≡ (x.base, new)

-- the blocks that are used then, and once it is deleted
abbrev pub IsMadeOn : (kind : Kind) → State kind → (old new : BlockMap) → Type 0
IsMadeOn Semaphore x old new = new ≡ old
IsMadeOn EventFlag x old new = new ≡ old
IsMadeOn Mailbox x old new = new ≡ old
IsMadeOn VariablePool x old new = TakesBlock x old new
IsMadeOn FixedPool x old new = TakesBlock x old new

abbrev pub GoesFrom : (kind : Kind) → State kind → (old new : BlockMap) → Type 0
GoesFrom Semaphore x old new = new ≡ old
GoesFrom EventFlag x old new = new ≡ old
GoesFrom Mailbox x old new = new ≡ old
GoesFrom VariablePool x old new = new ≡ (freeing old x.base).1
GoesFrom FixedPool x old new = new ≡ (freeing old x.base).1

-- the semaphore of an id is signalled where none waits, or one of its count is taken
pub data SemaphoreChanges (s : Semaphores) (id : ℕ) (x : semaphore.Semaphore)
    : semaphore.Semaphore → Type 0 where
  counts : chooses (by_priority x) (waiters_of s id) ≡ None → nat_le x.max x.count ≡ false
      → SemaphoreChanges s id x (with_count x (x.count + 1))
  takes : (x.count == 0) ≡ false → SemaphoreChanges s id x (with_count x (x.count - 1))

-- bits of an event flag are cleared, or a condition holds on its pattern
pub data FlagChanges (x : flag.EventFlag) : flag.EventFlag → Type 0 where
  clears : (mask : ℕ) → FlagChanges x (with_pattern x (bit_and x.pattern mask))
  tests : (wanted : Wanted) → holds wanted.bits wanted.mode x.pattern ≡ true
      → FlagChanges x (with_pattern x (pattern_after wanted.mode x.pattern))

-- a message is put into the mailbox of an id where none waits, or the next one is received
pub data MailboxChanges (s : Mailboxes) (id : ℕ) (x : mailboxes.Mailbox)
    : mailboxes.Mailbox → Type 0 where
  puts : (message : Queued ℕ) → chooses (waiters_by_priority x.attr) (waiters_of s id) ≡ None
      → mailboxes.has_room s ≡ true
      → MailboxChanges s id x (with_messages x (x.messages ++ message ∷ []))
  gets : (one : Choice ℕ) → next_message x ≡ Some one
      → MailboxChanges s id x (with_messages x one.others)

-- other ranges are out of a pool
abbrev pub out : Pool → List Range → Pool
out x ranges = record x { ranges = ranges }

-- memory of a variable pool is taken for a size
pub data VariableChanges (x : Pool) : Pool → Type 0 where
  takes : (size place : ℕ) → (size == 0) ≡ false → place_for x size ≡ Some place
      → VariableChanges x (out x (with_range (record { start = place; size = length_for x size })
      x.ranges))

-- a block of the fixed pool of an id is taken, or given back where none waits
pub data FixedChanges (s : FixedPools) (id : ℕ) (x : Pool) : Pool → Type 0 where
  takes : (place : ℕ) → place_for x x.unit ≡ Some place
      → FixedChanges s id x (out x (with_range (record {
        start = place;
        size = length_for x x.unit;
      }) x.ranges))
  gives : (block : ℕ) → is_out block x.ranges ≡ true
      → chooses (pools.by_priority x) (waiters_of s id) ≡ None
      → FixedChanges s id x (out x (without block x.ranges))

abbrev pub Changes : (kind : Kind) → Table kind → (id : ℕ) → (x y : State kind) → Type 0
Changes Semaphore s id x y = SemaphoreChanges s id x y
Changes EventFlag s id x y = FlagChanges x y
Changes Mailbox s id x y = MailboxChanges s id x y
Changes VariablePool s id x y = VariableChanges x y
Changes FixedPool s id x y = FixedChanges s id x y

-- what a thread is answered that a service wakes: 0, or the address of a block that is out
abbrev pub IsAnswer : (kind : Kind) → State kind → (word : ℕ) → Type 0
IsAnswer Semaphore x word = word ≡ code_word OK
IsAnswer EventFlag x word = word ≡ code_word OK
IsAnswer Mailbox x word = word ≡ code_word OK
IsAnswer VariablePool x word = ⊥
IsAnswer FixedPool x word = is_out word x.ranges ≡ true

-- a thread that wants this has to wait for an object
abbrev pub HasToWait : (kind : Kind) → Table kind → (id : ℕ) → State kind → Wants kind → Type 0
HasToWait Semaphore s id x wants = (x.count == 0) ≡ true
HasToWait EventFlag s id x wants =
    ((wants.bits == 0) ≡ false) × (flags.is_taken s id x ≡ false)
    × (holds wants.bits wants.mode x.pattern ≡ false)
HasToWait Mailbox s id x wants = next_message x ≡ None
HasToWait VariablePool s id x size = place_of x size ≡ None
HasToWait FixedPool s id x wants = place_for x x.unit ≡ None
