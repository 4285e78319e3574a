-- The state of the kernel, and what its services look at and change. What the kernel has is this
-- project's own profile.
use Rattle.std.specs.Prelude.{ℕ, ◌+◌, ◌*◌, ◌%◌, ◌==◌, Bool, true, ◌&&◌, ◌||◌, not, if◌then◌else◌, is_some, Option, Some, None, Result, Ok, Err, List, [], length, replicate}
use Rattle.iop_base.specs.Piece.{Piece}
use Rattle.iop_base.specs.declared.code.Code.{Code}
use Rattle.iop_base.specs.declared.guest_fault.GuestFault.{GuestFault}
use Rattle.iop_event.specs.EventFlags.{EventFlags}
use Rattle.iop_exec.specs.declared.cpu.Cpu.{Cpu}
use Rattle.iop_exec.specs.Row.{reg, with_reg}
use Rattle.iop_intr.specs.InterruptLines.{idle}
use Rattle.iop_intr.specs.declared.irq_line.IrqLine.{IrqLine}
use Rattle.iop_intr.specs.declared.irqs.TheConstants.{IRQ_LINES}
pub use Rattle.iop_libs.specs.Calls.{code_word}
use Rattle.iop_mbx.specs.Mailboxes.{Mailboxes}
use Rattle.iop_objects.specs.Objects.{no_objects}
use Rattle.iop_pools.specs.FixedPools.{FixedPools}
use Rattle.iop_pools.specs.VariablePools.{VariablePools}
use Rattle.iop_registry.specs.declared.registry.Entry.{Entry}
use Rattle.iop_sema.specs.Semaphores.{Semaphores}
use Rattle.iop_stubs.specs.Stubs.{Memory, after_store, range_place, store_lines}
use Rattle.iop_sysmem.specs.BlockMap.{BlockMap}
use Rattle.iop_thread.specs.Operations.{opening}
use Rattle.iop_thread.specs.ThreadTable.{ThreadTable}
use Rattle.iop_time.specs.Timers.{Timers, no_timers}
use Rattle.iop_kernel.specs.declared.active_handler.ActiveHandler.{ActiveHandler}
use Rattle.iop_kernel.specs.declared.after.After.{After}
use Rattle.iop_kernel.specs.declared.after.After.TheVariants.{Resume, Switch, Fault}

pub record Kernel : Type 0 where
  -- the moment, in ticks
  pub clock : ℕ
  -- whether interrupts are on
  pub interrupts : Bool
  -- whether dispatch is enabled
  pub dispatching : Bool
  -- the handler that runs, if one does
  pub handler : Option ActiveHandler
  pub threads : ThreadTable
  -- what threads can wait for
  pub semaphores : Semaphores
  pub event_flags : EventFlags
  pub mailboxes : Mailboxes
  pub variable_pools : VariablePools
  pub fixed_pools : FixedPools
  -- the alarms and the delays
  pub timers : Timers
  -- the interrupt lines, by their numbers
  pub irqs : List IrqLine

-- the kernel at first: the loader's thread alone, dormant, no object, no alarm, and all lines
-- lowered, disabled and without a handler
abbrev pub beginning : Kernel
beginning = record {
  clock = 0;
  interrupts = true;
  dispatching = true;
  handler = None;
  threads = opening;
  semaphores = no_objects;
  event_flags = no_objects;
  mailboxes = no_objects;
  variable_pools = no_objects;
  fixed_pools = no_objects;
  timers = no_timers;
  irqs = replicate IRQ_LINES idle;
}

-- whether a handler runs
abbrev pub in_handler : Kernel → Bool
in_handler k = is_some k.handler

-- whether a thread or a handler executes
abbrev pub is_active : Kernel → Bool
is_active k = in_handler k || is_some k.threads.running

-- whether another thread may run, so that the one that runs may wait
abbrev pub may_switch : Kernel → Bool
may_switch k = k.interrupts && k.dispatching

-- whether another thread is to run now if it is better: not while a handler runs
abbrev pub may_dispatch : Kernel → Bool
may_dispatch k = may_switch k && not (in_handler k)

-- the kernel with its processor
pub record Core : Type 0 where
  pub kernel : Kernel
  pub cpu : Cpu

abbrev pub with_threads : Core → ThreadTable → Core
with_threads c threads = record c { kernel = record c.kernel { threads = threads } }

abbrev pub with_semaphores : Core → Semaphores → Core
with_semaphores c semaphores = record c { kernel = record c.kernel { semaphores = semaphores } }

abbrev pub with_event_flags : Core → EventFlags → Core
with_event_flags c flags = record c { kernel = record c.kernel { event_flags = flags } }

abbrev pub with_mailboxes : Core → Mailboxes → Core
with_mailboxes c mailboxes = record c { kernel = record c.kernel { mailboxes = mailboxes } }

abbrev pub with_variable_pools : Core → VariablePools → Core
with_variable_pools c pools = record c { kernel = record c.kernel { variable_pools = pools } }

abbrev pub with_fixed_pools : Core → FixedPools → Core
with_fixed_pools c pools = record c { kernel = record c.kernel { fixed_pools = pools } }

abbrev pub with_timers : Core → Timers → Core
with_timers c timers = record c { kernel = record c.kernel { timers = timers } }

abbrev pub with_irqs : Core → List IrqLine → Core
with_irqs c irqs = record c { kernel = record c.kernel { irqs = irqs } }

abbrev pub with_interrupts : Core → (on : Bool) → Core
with_interrupts c on = record c { kernel = record c.kernel { interrupts = on } }

-- interrupts are on and dispatch is enabled
abbrev pub opened : Core → Core
opened c = record c { kernel = record c.kernel { interrupts = true; dispatching = true } }

-- a word stands in `$v0`
abbrev pub answered : Core → ℕ → Core
answered c word = record c { cpu = with_reg c.cpu 2 word }

-- the thread that calls: none where a handler does
abbrev pub caller_beside : Option ActiveHandler → (running : Option ℕ) → Option ℕ
caller_beside None running = running
caller_beside (Some handler) running = None

abbrev pub caller_in : Kernel → Option ℕ
caller_in k = caller_beside k.handler k.threads.running

abbrev pub caller : Core → Option ℕ
caller c = caller_in c.kernel

-- the registers of the thread that runs: they are kept while a handler runs
abbrev pub registers_beside : Option ActiveHandler → Cpu → Cpu
registers_beside None cpu = cpu
registers_beside (Some handler) cpu = handler.kept

abbrev pub running_registers : Core → Cpu
running_registers c = registers_beside c.kernel.handler c.cpu

-- all that a service looks at and changes
pub record System : Type 0 where
  pub core : Core
  pub memory : Memory
  -- the blocks of memory
  pub blocks : BlockMap
  -- the registered libraries
  pub libraries : List Entry

-- the first arguments of a call, from 0 on
abbrev pub argument : Core → ℕ → ℕ
argument c k = reg c.cpu (4 + k)

-- what a call leaves, and what becomes of its caller
pub record Left (S : Type 0) : Type 0 where
  pub state : S
  pub after : After

-- the caller goes on, with a word answered
abbrev pub resumes : Core → ℕ → Left Core
resumes c word = record { state = answered c word; after = Resume }

-- the same, with a code answered
abbrev pub answers : Core → Code → Left Core
answers c code = resumes c (code_word code)

-- the same, with a word or a code answered
abbrev pub result_word : Result ℕ Code → ℕ
result_word (Ok word) = word
result_word (Err code) = code_word code

abbrev pub answers_result : Core → Result ℕ Code → Left Core
answers_result c result = resumes c (result_word result)

-- the caller does not go on
abbrev pub switches : Core → Left Core
switches c = record { state = c; after = Switch }

-- the `syscall` faults
abbrev pub faults : {S : Type 0} → S → GuestFault → Left S
faults s kind = record { state = s; after = Fault kind }

-- what a call leaves and gives, and what becomes of its caller
pub record Done (S : Type 0) : Type 0 where
  pub left : Left S
  pub pieces : List Piece

abbrev pub Served : Type 0
Served = Done System

-- nothing is given
abbrev pub silent : Left System → Served
silent left = record { left = left; pieces = [] }

-- a call that leaves all but the kernel and its processor as it was
abbrev pub on_core : System → Left Core → Left System
on_core s left = record { state = record s { core = left.state }; after = left.after }

-- the physical place of so many words: a multiple of 4, wholly in RAM
abbrev pub words_place : Memory → (at count : ℕ) → Option ℕ
words_place memory at count =
    if at % 4 == 0 then range_place memory at (4 * count) else None

-- bytes are stored at a physical place
abbrev pub stores : System → Option ℕ → List ℕ → System
stores s place bytes = record s { memory = after_store s.memory place bytes }

-- and its lines: a live stub of which a byte is stored into is told
abbrev pub storing_lines : System → Option ℕ → List ℕ → List Piece
storing_lines s place bytes = store_lines s.core.kernel.clock s.memory place (length bytes)
