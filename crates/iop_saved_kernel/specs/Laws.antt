-- What the laws of the kernel's part of a snapshot say.
use Rattle.std.specs.Prelude.{◌≡◌, ℕ, ◌<◌, ◌^◌, true, false, Option, Some, None, IfSome, All}
use Rattle.iop_event.specs.Restoring as event_flags
use Rattle.iop_exec.specs.Laws.{IsSteady}
use Rattle.iop_exec.specs.declared.cpu.Cpu.{Cpu}
use Rattle.iop_intr.specs.declared.irqs.TheConstants.{IRQ_LINES}
use Rattle.iop_kernel.specs.System.{Kernel, Core}
use Rattle.iop_kernel.specs.declared.active_handler.Cause.{Cause}
use Rattle.iop_kernel.specs.declared.active_handler.Cause.TheVariants.{Line, Alarm}
use Rattle.iop_mbx.specs.Restoring as mailboxes
use Rattle.iop_objects.specs.Objects.{Objects}
use Rattle.iop_pools.specs.FixedRestoring as fixed_pools
use Rattle.iop_pools.specs.VariableRestoring as variable_pools
use Rattle.iop_ready.specs.Priorities.{IsPriority}
use Rattle.iop_saved_objects.specs.Laws.{AllHavePriorities}
use Rattle.iop_sema.specs.Restoring as semaphores
use Rattle.iop_snapshot.specs.Forms.{IsLawful}
use Rattle.iop_thread.specs.Laws.{KeptBy, AnyRegisters}
use Rattle.iop_thread.specs.Ordering.{in_order}
use Rattle.iop_thread.specs.Placing.{IsPlaced}
use Rattle.iop_thread.specs.States.{zeroed_at}
use Rattle.iop_thread.specs.declared.thread.Thread.{Thread}
use Rattle.iop_time.specs.Timers.{AreTimers}
use Rattle.iop_saved_kernel.specs.Executing.{head_in}
use Rattle.iop_saved_kernel.specs.Heads.{executes}
use Rattle.iop_saved_kernel.specs.Parts.{Parts, parts_in, written_form, steady_form_of_parts, core_back, core_form}
use Rattle.iop_saved_kernel.specs.ThreadLists.{priorities_in, priority_among}

-- the priority of each thread of a kernel
abbrev pub own_priorities : Kernel → ℕ → Option ℕ
own_priorities k = priority_among (priorities_in k.threads.live)

-- all that waits for objects of a kind waits with the priority of its thread
abbrev pub WaitByPriority : {A W : Type 0} → Kernel → Objects A W → Type 0
WaitByPriority k s = AllHavePriorities (own_priorities k) s

-- the tables of a kernel are as they can be put back
pub record TablesCanBeBack (k : Kernel) : Type 0 where
  pub threads : IsPlaced k.threads
  pub semaphores : semaphores.CanBeRestored k.semaphores × WaitByPriority k k.semaphores
  pub event_flags : event_flags.CanBeRestored k.event_flags × WaitByPriority k k.event_flags
  pub mailboxes : mailboxes.CanBeRestored k.mailboxes × WaitByPriority k k.mailboxes
  pub variable_pools : variable_pools.AreRegular k.variable_pools
      × WaitByPriority k k.variable_pools
  pub fixed_pools : fixed_pools.AreRegular k.fixed_pools × WaitByPriority k k.fixed_pools
  pub timers : AreTimers k.timers
  pub numbers : k.timers.next < 2 ^ 64

-- what a handler can have been begun for, by the number of the alarm or delay that is set next: one
-- of the lines, or an alarm whose number was given
abbrev pub CanHaveBegun : (next : ℕ) → Cause → Type 0
CanHaveBegun next (Line line) = line < IRQ_LINES
CanHaveBegun next (Alarm number) = (0 < number) × (number < next)

-- and so are the kernel and its processor
pub record CanBeBack (c : Core) : Type 0 where
  pub tables : TablesCanBeBack c.kernel
  -- a handler was begun for one of the lines, or for an alarm
  pub cause : IfSome c.kernel.handler (λ handler. CanHaveBegun c.kernel.timers.next handler.cause)
  -- registers that nobody has are zero: the processor's, where nothing executes
  pub cpu : executes (head_in c.kernel) ≡ false → c.cpu ≡ zeroed_at 0
  -- and those that a handler keeps, where no thread runs
  pub kept : c.kernel.threads.running ≡ None
      → IfSome c.kernel.handler (λ handler. handler.kept ≡ zeroed_at 0)

-- with the ready list by priority
abbrev pub core_in_order : Core → Core
core_in_order c =
    record c { kernel = record c.kernel { threads = in_order c.kernel.threads } }

-- a kernel and its processor that can be put back come back from their parts, in order
abbrev pub CoresComeBack : Type 0
CoresComeBack = (c : Core) → CanBeBack c → core_back (parts_in c) ≡ Some (core_in_order c)

pub record CoresTellWhatWasPut : Type 0 where
  -- what was read and put back is what would be written again: the parts of what it left are those
  -- that were put back
  pub parts : (p : Parts) (c : Core) → steady_form_of_parts.fits p ≡ true → core_back p ≡ Some c
      → parts_in c ≡ p
  -- its ready threads stand by priority
  pub order : (p : Parts) (c : Core) → core_back p ≡ Some c → core_in_order c ≡ c
  -- and it can be put back again
  pub sound : (p : Parts) (c : Core) → steady_form_of_parts.fits p ≡ true → core_back p ≡ Some c
      → CanBeBack c

pub record PartsAreLawful : Type 0 where
  -- what was spelled is read, whatever follows, and what was read is what is spelled
  pub lawful : IsLawful core_form
  -- and it is spelled as it is written
  pub same : (p : Parts) → core_form.spell p ≡ written_form.spell p

-- a processor as it is read
pub record IsReadable (cpu : Cpu) : Type 0 where
  -- what holds of a processor at all times
  pub steady : IsSteady cpu
  -- what is pending is for one of the 32 registers
  pub register : IfSome cpu.pending (λ load. load.reg < 32)

-- one that does not execute, as it is read
pub record IsReadableKept (cpu : Cpu) : Type 0 where
  pub readable : IsReadable cpu
  -- it stands in no delay slot
  pub outside : cpu.in_slot ≡ false

-- a thread as it is read
pub record IsReadableThread (t : Thread) : Type 0 where
  -- the priority that it was made with, and that which it has, are some
  pub first : IsPriority t.param.priority
  pub priority : IsPriority t.priority
  -- what it keeps in its state is a processor that does not execute
  pub kept : KeptBy IsReadableKept AnyRegisters t.state

-- a kernel and its processor with such processors and threads
pub record IsSteadyCore (c : Core) : Type 0 where
  pub cpu : IsReadable c.cpu
  pub threads : All IsReadableThread c.kernel.threads.live
  -- what a handler keeps does not execute
  pub handler : IfSome c.kernel.handler (λ handler. IsReadableKept handler.kept)

pub record CoresAreRead : Type 0 where
  -- what has room where it is written, can be put back and is steady, can be read and put back
  pub fits : (c : Core) → CanBeBack c → IsSteadyCore c → written_form.fits (parts_in c) ≡ true
      → core_form.fits (parts_in c) ≡ true
  -- and what was read and put back is steady
  pub steady : (p : Parts) (c : Core) → steady_form_of_parts.fits p ≡ true → core_back p ≡ Some c
      → IsSteadyCore c
