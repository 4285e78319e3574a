-- The kinds of objects that threads wait for, and the objects of each (ps2sdk: thsemap, thevent,
-- thmsgbx, thvpool, thfpool).
use Rattle.std.specs.Prelude.{ℕ, ⊤, Bool, true, false}
use Rattle.iop_event.specs.EventFlags.{EventFlags}
use Rattle.iop_event.specs.declared.event_flag.EventFlag as flag
use Rattle.iop_event.specs.declared.wanted.Wanted.{Wanted}
use Rattle.iop_mbx.specs.Mailboxes as mailboxes
use Rattle.iop_mbx.specs.Mailboxes.{Mailboxes}
use Rattle.iop_objects.specs.Objects.{Object, Objects}
use Rattle.iop_pools.specs.FixedPools.{FixedPools}
use Rattle.iop_pools.specs.Pools as pools
use Rattle.iop_pools.specs.VariablePools.{VariablePools}
use Rattle.iop_sema.specs.Semaphores as semaphores
use Rattle.iop_sema.specs.Semaphores.{Semaphores}
use Rattle.iop_sema.specs.declared.semaphore.Semaphore as semaphore
use Rattle.iop_thread.specs.declared.kind.Kind.{Kind}
use Rattle.iop_thread.specs.declared.kind.Kind.TheVariants.{Semaphore, EventFlag, Mailbox, VariablePool, FixedPool}
use Rattle.iop_kernel.specs.System.{Kernel, Core}
use Rattle.iop_services.specs.declared.codes.TheConstants.{THSEMAP, THEVENT, THMSGBX, THVPOOL, THFPOOL}

-- whether two kinds are one
abbrev pub is_kind : Kind → Kind → Bool
is_kind Semaphore Semaphore = true
is_kind EventFlag EventFlag = true
is_kind Mailbox Mailbox = true
is_kind VariablePool VariablePool = true
is_kind FixedPool FixedPool = true
is_kind kind other = false

-- the library whose services are those of a kind
abbrev pub library_of : Kind → ℕ
library_of Semaphore = THSEMAP
library_of EventFlag = THEVENT
library_of Mailbox = THMSGBX
library_of VariablePool = THVPOOL
library_of FixedPool = THFPOOL

-- what is known of an object
abbrev pub State : Kind → Type 0
State Semaphore = semaphore.Semaphore
State EventFlag = flag.EventFlag
State Mailbox = mailboxes.Mailbox
State VariablePool = pools.Pool
State FixedPool = pools.Pool

-- what a thread that waits for it wants: nothing more, bits, a place for the message, or so many
-- bytes
abbrev pub Wants : Kind → Type 0
Wants Semaphore = ⊤
Wants EventFlag = Wanted
Wants Mailbox = ℕ
Wants VariablePool = ℕ
Wants FixedPool = ⊤

abbrev pub Live : Kind → Type 0
Live kind = Object (State kind) (Wants kind)

abbrev pub Table : Kind → Type 0
Table kind = Objects (State kind) (Wants kind)

-- the objects of a kind
abbrev pub of_kind : (kind : Kind) → Semaphores → EventFlags → Mailboxes → VariablePools
    → FixedPools → Table kind
of_kind Semaphore semaphores flags boxes vpls fpls = semaphores
of_kind EventFlag semaphores flags boxes vpls fpls = flags
of_kind Mailbox semaphores flags boxes vpls fpls = boxes
of_kind VariablePool semaphores flags boxes vpls fpls = vpls
of_kind FixedPool semaphores flags boxes vpls fpls = fpls

abbrev pub table : (kind : Kind) → Kernel → Table kind
table kind k =
    of_kind kind k.semaphores k.event_flags k.mailboxes k.variable_pools k.fixed_pools

-- the left objects of a kind, where the other is that kind; else those that were
abbrev pub if_of : (kind other : Kind) → Table kind → Table other → Table other
if_of Semaphore Semaphore left was = left
if_of EventFlag EventFlag left was = left
if_of Mailbox Mailbox left was = left
if_of VariablePool VariablePool left was = left
if_of FixedPool FixedPool left was = left
if_of kind other left was = was

-- the objects of a kind are others
abbrev pub with_table : (kind : Kind) → Kernel → Table kind → Kernel
with_table kind k left = record k {
  semaphores = if_of kind Semaphore left k.semaphores;
  event_flags = if_of kind EventFlag left k.event_flags;
  mailboxes = if_of kind Mailbox left k.mailboxes;
  variable_pools = if_of kind VariablePool left k.variable_pools;
  fixed_pools = if_of kind FixedPool left k.fixed_pools;
}

abbrev pub with_objects : (kind : Kind) → Core → Table kind → Core
with_objects kind c left = record c { kernel = with_table kind c.kernel left }

-- whether the threads that wait for an object are chosen by their priority
abbrev pub waits_by_priority : (kind : Kind) → State kind → Bool
waits_by_priority Semaphore x = semaphores.by_priority x
waits_by_priority EventFlag x = false
waits_by_priority Mailbox x = mailboxes.waiters_by_priority x.attr
waits_by_priority VariablePool x = pools.by_priority x
waits_by_priority FixedPool x = pools.by_priority x

-- the same of the object of an id
abbrev pub is_by_priority : (kind : Kind) → Table kind → ℕ → Bool
is_by_priority Semaphore s id = semaphores.is_by_priority s id
is_by_priority EventFlag s id = false
is_by_priority Mailbox s id = mailboxes.is_by_priority s id
is_by_priority VariablePool s id = pools.is_by_priority s id
is_by_priority FixedPool s id = pools.is_by_priority s id
