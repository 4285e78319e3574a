-- How the program's kernel stands for the kernel.
use Rattle.std.specs.Prelude.{◌≡◌, ◌<◌, ◌-◌, ◌^◌, Bool, true, false, ⊤, Option, Some, None, IfSome, List, [], ◌∷◌, length}
use Rattle.std.specs.List.{list_any}
use Rattle.iop_base.specs.Output.{Output, Gives}
use Rattle.iop_exec.specs.declared.cpu.Cpu.{Cpu}
use Rattle.iop_intr.specs.declared.irqs.TheConstants.{IRQ_LINES}
use Rattle.iop_objects.specs.Objects.{waiting}
use Rattle.iop_objects.specs.declared.objects.TheConstants.{MOST_WAITERS}
use Rattle.iop_ready.specs.declared.entry.Entry.{Entry}
use Rattle.iop_registry.specs.declared.registry.Entry.{Entry as Library}
use Rattle.iop_stubs.specs.Stubs.{Memory}
use Rattle.iop_sysmem.specs.BlockMap.{BlockMap}
use Rattle.iop_thread.specs.Standing as threads
use Rattle.iop_thread.specs.declared.kind.Kind.{Kind}
use Rattle.iop_time.specs.Timers.{is_delay_of}
use Rattle.iop_time.specs.declared.clock.TheConstants.{MOST_DELAYS}
use Rattle.iop_kernel.specs.Boards.{Board}
use Rattle.iop_kernel.specs.Deliveries.{Delivered}
use Rattle.iop_kernel.specs.Dispatching.{Dispatched}
use Rattle.iop_kernel.specs.Kinds.{Table, of_kind}
use Rattle.iop_kernel.specs.Placing.{IsPlaced}
use Rattle.iop_kernel.specs.Stacks.{Owner}
use Rattle.iop_kernel.specs.System.{Kernel, Core, System, Left, Done, Served, is_active}
use Rattle.iop_kernel.specs.declared.active_handler.Cause.{Cause}
use Rattle.iop_kernel.specs.declared.active_handler.Cause.TheVariants.{Line, Alarm}
use Rattle.iop_kernel.specs.declared.after.After.{After}
use Rattle.iop_kernel.specs.declared.kernel.Kernel.{Kernel as Program}

-- where a handler was begun for a line, it is one of the lines
abbrev pub IsCause : Cause → Type 0
IsCause (Line line) = line < IRQ_LINES
IsCause (Alarm number) = ⊤

-- the objects of a kind that the program's kernel has
abbrev pub held : {R : Type 0} → (kind : Kind) → Program R → Table kind
held kind p =
    of_kind kind p.semaphores p.event_flags p.mailboxes p.variable_pools p.fixed_pools

module _ {R : Type 0} (stands_for : R → List Entry → Type 0) where
  -- it holds what the kernel has
  pub record Holds (k : Program R) (s : Kernel) : Type 0 where
    pub clock : s.clock ≡ k.clock
    pub interrupts : s.interrupts ≡ k.interrupts
    pub dispatching : s.dispatching ≡ k.dispatching
    pub handler : s.handler ≡ k.handler
    pub cause : IfSome s.handler (λ handler. IsCause handler.cause)
    pub threads : threads.Stands stands_for k.threads s.threads
    pub semaphores : s.semaphores ≡ k.semaphores
    pub event_flags : s.event_flags ≡ k.event_flags
    pub mailboxes : s.mailboxes ≡ k.mailboxes
    pub variable_pools : s.variable_pools ≡ k.variable_pools
    pub fixed_pools : s.fixed_pools ≡ k.fixed_pools
    pub timers : s.timers ≡ k.timers
    pub irqs : s.irqs ≡ k.irqs

  -- it holds what some kernel has
  abbrev pub IsHeld : Program R → Type 0
  IsHeld k = (s : Kernel) × Holds k s

  -- it stands for the kernel, in which threads and waiters are placed
  pub record Stands (k : Program R) (s : Kernel) : Type 0 where
    pub holds : Holds k s
    pub placed : IsPlaced s

  -- it stands for some kernel
  abbrev pub IsSound : Program R → Type 0
  IsSound k = (s : Kernel) × Stands k s

  -- it stands for some kernel, in which a thread or a handler executes
  abbrev pub IsActive : Program R → Type 0
  IsActive k = (s : Kernel) × Stands k s × (is_active s ≡ true)

  -- it holds some kernel, in which the thread that runs has no delay
  pub record IsUndelayed (k : Program R) : Type 0 where
    pub kernel : Kernel
    pub holds : Holds k kernel
    pub free : IfSome kernel.threads.running
        (λ thread. list_any (is_delay_of thread) kernel.timers.delays ≡ false)

  -- the thread that calls, if one does and not a handler, has no delay, and there is room for it
  -- among those that wait
  pub record HasRoomToWait (k : Program R) : Type 0 where
    pub undelayed : IsUndelayed k
    pub delays : k.handler ≡ None → length k.timers.delays < MOST_DELAYS
    pub semaphores : k.handler ≡ None → waiting k.semaphores < MOST_WAITERS
    pub event_flags : k.handler ≡ None → waiting k.event_flags < MOST_WAITERS
    pub mailboxes : k.handler ≡ None → waiting k.mailboxes < MOST_WAITERS
    pub variable_pools : k.handler ≡ None → waiting k.variable_pools < MOST_WAITERS
    pub fixed_pools : k.handler ≡ None → waiting k.fixed_pools < MOST_WAITERS

  -- the kernel and its processor after a call which answered what becomes of its caller
  pub record TakesCore (left : Left Core) (after : After) (k : Program R) (cpu : Cpu) : Type 0 where
    pub answer : after ≡ left.after
    pub kernel : Holds k left.state.kernel
    pub processor : cpu ≡ left.state.cpu

  -- the same, and the blocks
  pub record TakesOwner (left : Left Owner) (after : After) (k : Program R) (cpu : Cpu)
      (blocks : BlockMap) : Type 0 where
    pub core : TakesCore (record { state = left.state.core; after = left.after }) after k cpu
    pub map : blocks ≡ left.state.blocks

  -- the same, and memory, after a call which gave the pieces
  pub record TakesBoard (done : Done Board) (after : After) (k : Program R) (cpu : Cpu)
      (memory : Memory) (old new : Output) : Type 0 where
    pub core : TakesCore (record { state = done.left.state.core; after = done.left.after }) after k
        cpu
    pub ram : memory ≡ done.left.state.memory
    pub gives : Gives old new done.pieces

  -- the same, and all the rest, after a call which gave the pieces
  pub record Serves (d : Served) (after : After) (k : Program R) (cpu : Cpu) (memory : Memory)
      (blocks : BlockMap) (libraries : List Library) (old new : Output) : Type 0 where
    pub core : TakesCore (record { state = d.left.state.core; after = d.left.after }) after k cpu
    pub ram : memory ≡ d.left.state.memory
    pub map : blocks ≡ d.left.state.blocks
    pub registry : libraries ≡ d.left.state.libraries
    pub gives : Gives old new d.pieces

  -- the same, and threads and waiters are placed
  pub record ServesPlaced (d : Served) (after : After) (k : Program R) (cpu : Cpu)
      (memory : Memory) (blocks : BlockMap) (libraries : List Library) (old new : Output)
      : Type 0 where
    pub served : Serves d after k cpu memory blocks libraries old new
    pub placed : IsPlaced d.left.state.core.kernel

  -- whether a dispatch was made, what it left, and its line
  abbrev pub Dispatches : Core → Option Dispatched → Bool → Program R → Cpu
      → (old new : Output) → Type 0
  Dispatches c None result k cpu old new =
      (result ≡ false) × Stands k c.kernel × (cpu ≡ c.cpu) × Gives old new []
  Dispatches c (Some d) result k cpu old new =
      (result ≡ true) × Stands k d.core.kernel × (cpu ≡ d.core.cpu) × Gives old new (d.line ∷ [])

  -- whether a delivery was made, what it left, and its line
  abbrev pub Delivers : Core → Option Delivered → Bool → Program R → Cpu
      → (old new : Output) → Type 0
  Delivers c None result k cpu old new =
      (result ≡ false) × Stands k c.kernel × (cpu ≡ c.cpu) × Gives old new []
  Delivers c (Some d) result k cpu old new =
      (result ≡ true) × Stands k d.core.kernel × (cpu ≡ d.core.cpu) × Gives old new (d.line ∷ [])

abbrev pub core : Kernel → Cpu → Core
core kernel cpu = record { kernel = kernel; cpu = cpu }

abbrev pub board : Kernel → Cpu → Memory → Board
board kernel cpu memory = record { core = core kernel cpu; memory = memory }

abbrev pub owner : Kernel → Cpu → BlockMap → Owner
owner kernel cpu blocks = record { core = core kernel cpu; blocks = blocks }

abbrev pub system : Kernel → Cpu → Memory → BlockMap → List Library → System
system kernel cpu memory blocks libraries =
    record { core = core kernel cpu; memory = memory; blocks = blocks; libraries = libraries }

-- they are the blocks of a memory as large as this
abbrev pub HasSizeOf : BlockMap → Memory → Type 0
HasSizeOf blocks memory = blocks.size ≡ length memory.ram

-- a number is left for one more alarm or delay
abbrev pub HasNumber : {R : Type 0} → Program R → Type 0
HasNumber k = k.timers.next < 2 ^ 64 - 1
