-- How a kernel and its processor stand at all times, so that they can be put back from a snapshot:
-- this project's own profile.
use Rattle.std.specs.Prelude.{IfSome, All}
use Rattle.iop_event.specs.Restoring as event_flags
use Rattle.iop_kernel.specs.Kinds.{Table, table}
use Rattle.iop_kernel.specs.System.{Kernel, Core}
use Rattle.iop_mbx.specs.Restoring as mailboxes
use Rattle.iop_pools.specs.FixedRestoring as fixed_pools
use Rattle.iop_pools.specs.VariableRestoring as variable_pools
use Rattle.iop_saved_kernel.specs.Laws.{CanHaveBegun, IsReadableKept, IsReadableThread}
use Rattle.iop_sema.specs.Restoring as semaphores
use Rattle.iop_thread.specs.declared.kind.Kind.{Kind}
use Rattle.iop_thread.specs.declared.kind.Kind.TheVariants.{Semaphore, EventFlag, Mailbox, VariablePool, FixedPool}

-- the objects of a kind are as they can be put back
abbrev pub CanStand : (kind : Kind) → Table kind → Type 0
CanStand Semaphore s = semaphores.CanBeRestored s
CanStand EventFlag s = event_flags.CanBeRestored s
CanStand Mailbox s = mailboxes.CanBeRestored s
CanStand VariablePool s = variable_pools.AreRegular s
CanStand FixedPool s = fixed_pools.AreRegular s

-- those of all kinds are
abbrev pub ObjectsCanStand : Kernel → Type 0
ObjectsCanStand k = (kind : Kind) → CanStand kind (table kind k)

pub record IsRegular (c : Core) : Type 0 where
  pub objects : ObjectsCanStand c.kernel
  -- a handler was begun for one of the lines, or for an alarm
  pub cause : IfSome c.kernel.handler (λ handler. CanHaveBegun c.kernel.timers.next handler.cause)
  -- what threads and the handler keep can be read back, and the priorities of threads are some
  pub threads : All IsReadableThread c.kernel.threads.live
  pub handler : IfSome c.kernel.handler (λ handler. IsReadableKept handler.kept)

-- and so is a processor that stands in no delay slot, as behind a `syscall`
pub record StandsStill (c : Core) : Type 0 where
  pub regular : IsRegular c
  pub cpu : IsReadableKept c.cpu
