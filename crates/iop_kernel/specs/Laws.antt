-- What the laws of the kernel say: what holds of it at all times, and what its services,
-- deliveries and dispatch leave as it was.
use Rattle.std.specs.Prelude.{◌≡◌, ℕ, ◌+◌, ◌^◌, ◌<◌, ◌≤◌, true, Some, None, IfSome, List, [], ◌∷◌, ◌++◌, length, All, Contains}
use Rattle.iop_base.specs.Piece.{Piece, Traced}
use Rattle.iop_base.specs.Text.{line_bytes}
use Rattle.iop_base.specs.declared.guest_fault.GuestFault.{GuestFault}
use Rattle.iop_base.specs.declared.guest_fault.GuestFault.TheVariants.{Address}
use Rattle.iop_base.specs.declared.line.Line.TheVariants.{Run}
use Rattle.iop_exec.specs.Laws.{IsSteady}
use Rattle.iop_kernel.specs.Callers.{HasLeft, HasAnswer}
use Rattle.iop_kernel.specs.Dispatching.{Dispatched, dispatches}
use Rattle.iop_kernel.specs.Overdue.{NoneOverdue}
use Rattle.iop_kernel.specs.Placing.{IsPlaced}
use Rattle.iop_kernel.specs.PoolMemory.{PoolsAreSound}
use Rattle.iop_kernel.specs.Serving.{services, calls_library}
use Rattle.iop_kernel.specs.System.{Kernel, Core, System, Served, is_active, may_dispatch, caller, opened}
use Rattle.iop_kernel.specs.WaiterPlaces.{HavePlaces}
use Rattle.iop_kernel.specs.declared.active_handler.ActiveHandler.{ActiveHandler}
use Rattle.iop_kernel.specs.declared.after.After.{After}
use Rattle.iop_kernel.specs.declared.after.After.TheVariants.{Resume, Switch, ModuleReturned, Fault}
use Rattle.iop_stubs.specs.Stubs.{Memory, after_store, store_lines}
use Rattle.iop_sysmem.specs.BlockMap.{BlockMap, AreBlocks}
use Rattle.iop_thread.specs.Laws.{AreSteady, IsDispatched, IsSettled}
use Rattle.iop_thread.specs.Operations.{Dispatch}
use Rattle.iop_thread.specs.declared.thread.TheConstants.{LOADER}

-- where no thread runs, another may: at once, or once the handler that runs has returned
pub record IsAwake (k : Kernel) : Type 0 where
  pub dispatching : k.dispatching ≡ true
  pub interrupts : k.handler ≡ None → k.interrupts ≡ true

-- what holds of the kernel and its processor at all times
pub record IsCore (c : Core) : Type 0 where
  -- each thread stands where its state says, and each that waits is among the waiters of its object
  -- or has a delay
  pub placed : IsPlaced c.kernel
  -- no wait is overdue
  pub overdue : NoneOverdue c.kernel
  pub awake : c.kernel.threads.running ≡ None → IsAwake c.kernel
  -- what holds of a processor holds of this one, and of what each thread and the handler keep
  pub steady : IsSteady c.cpu
  pub threads : AreSteady c.kernel.threads
  pub handler : IfSome c.kernel.handler (λ handler. IsSteady handler.kept)

-- bytes that are stored at a physical place
pub record Store : Type 0 where
  pub place : ℕ
  pub bytes : List ℕ

-- several stores, one after the other, and their lines
abbrev pub after_stores : Memory → List Store → Memory
after_stores memory [] = memory
after_stores memory (x ∷ xs) = after_stores (after_store memory (Some x.place) x.bytes) xs

abbrev pub stores_lines : (clock : ℕ) → Memory → List Store → List Piece
stores_lines clock memory [] = []
stores_lines clock memory (x ∷ xs) =
    store_lines clock memory (Some x.place) (length x.bytes)
    ++ stores_lines clock (after_store memory (Some x.place) x.bytes) xs

-- a service stores ranges of bytes inside RAM, and tells of each live stub that it meets
pub record Writes (s : System) (memory : Memory) (pieces : List Piece) : Type 0 where
  pub stores : List Store
  pub inside : All (λ x. x.place + length x.bytes ≤ length s.memory.ram) stores
  pub left : memory ≡ after_stores s.memory stores
  pub told : (piece : Piece) → Contains (stores_lines s.core.kernel.clock s.memory stores) piece
      → Contains pieces piece

-- they are blocks of the same memory
pub record AreKept (old new : BlockMap) : Type 0 where
  pub are_blocks : AreBlocks old → AreBlocks new
  pub size : new.size ≡ old.size

-- what has become of the thread that called, by what is answered
abbrev pub Follows : After → System → (id : ℕ) → System → List Piece → Type 0
Follows Resume s id left pieces = left.core.kernel.threads.running ≡ Some id
Follows Switch s id left pieces =
    (left.core.kernel.threads.running ≡ None)
    × HasLeft s.core.cpu left.core.kernel.threads id
Follows (ModuleReturned word) s id left pieces =
    (id ≡ LOADER) × (left ≡ record s { core = opened s.core }) × (pieces ≡ [])
Follows (Fault kind) s id left pieces = (left ≡ s) × (pieces ≡ [])

-- what has become of the handler that called, by what is answered. After its return interrupts are
-- on, and the processor has what was kept
pub record HasReturned (s : System) (handler : ActiveHandler) (left : System) : Type 0 where
  pub none : left.core.kernel.handler ≡ None
  pub interrupts : left.core.kernel.interrupts ≡ true
  pub registers : left.core.cpu ≡ handler.kept
  -- nothing else changes but its line or its alarm
  pub kernel : left.core.kernel
      ≡ record s.core.kernel {
        interrupts = true;
        handler = None;
        timers = left.core.kernel.timers;
        irqs = left.core.kernel.irqs;
      }

abbrev pub HandlerFollows : After → System → ActiveHandler → System → List Piece → Type 0
HandlerFollows Resume s handler left pieces = left.core.kernel.handler ≡ Some handler
HandlerFollows Switch s handler left pieces = HasReturned s handler left
HandlerFollows (ModuleReturned word) s handler left pieces = ⊥
HandlerFollows (Fault kind) s handler left pieces = (left ≡ s) × (pieces ≡ [])

-- what each service keeps
pub record ServiceKeeps (s : System) (d : Served) : Type 0 where
  pub follows : (id : ℕ) → IsPlaced s.core.kernel → caller s.core ≡ Some id
      → Follows d.left.after s id d.left.state d.pieces
  pub handler_follows : (handler : ActiveHandler) → s.core.kernel.handler ≡ Some handler
      → HandlerFollows d.left.after s handler d.left.state d.pieces
  -- who goes on has a word in `$v0`, and nothing else of its processor changes
  pub answers : d.left.after ≡ Resume → HasAnswer s.core.cpu d.left.state.core.cpu
  -- it takes one number at most for an alarm or a delay
  pub numbers : d.left.state.core.kernel.timers.next ≤ s.core.kernel.timers.next + 1
  -- threads and waiters stay where they belong, and no wait becomes overdue
  pub placed : IsPlaced s.core.kernel → IsPlaced d.left.state.core.kernel
  pub overdue : NoneOverdue s.core.kernel → NoneOverdue d.left.state.core.kernel
  -- what holds at all times goes on to hold where nothing is pending, as behind a `syscall`
  pub core : s.core.cpu.pending ≡ None → IsCore s.core → IsCore d.left.state.core
  pub clock : d.left.state.core.kernel.clock ≡ s.core.kernel.clock
  pub memory : Writes s d.left.state.memory d.pieces
  -- each thread that waits has a place for what it is told
  pub places : HavePlaces s.memory s.core.kernel
      → HavePlaces d.left.state.memory d.left.state.core.kernel
  -- the ranges that are out of each pool stay apart and inside of it
  pub pools : AreBlocks s.blocks → s.blocks.size < 2 ^ 32 → PoolsAreSound s.core.kernel
      → PoolsAreSound d.left.state.core.kernel
  pub blocks : AreKept s.blocks d.left.state.blocks

abbrev pub ServicesKeep : Type 0
ServicesKeep =
    (s : System) (code : ℕ) → is_active s.core.kernel ≡ true → ServiceKeeps s (services s code)

-- a call of a library that a thread or a handler makes faults at an address that is no place alone:
-- no listed service faults since it has none
abbrev pub LibrariesFaultAtAddresses : Type 0
LibrariesFaultAtAddresses =
    (s : System) (library number : ℕ) (kind : GuestFault) → is_active s.core.kernel ≡ true
    → (calls_library library number s).left.after ≡ Fault kind → kind ≡ Address

-- a dispatch takes the first ready thread of the best priority, and tells its id; nothing else is
-- dispatched after it
pub record IsSwitch (c : Core) (d : Dispatched) : Type 0 where
  pub did : Dispatch
  pub is : IsDispatched c.kernel.threads c.cpu did
  -- only the threads of the kernel change, and the processor has the registers that the thread kept
  pub left : d.core
      ≡ record { kernel = record c.kernel { threads = did.threads }; cpu = did.registers }
  pub line : d.line ≡ Traced (line_bytes c.kernel.clock (Run is.thread.id))
  pub settled : dispatches d.core ≡ None

-- what a dispatch keeps
pub record DispatchKeeps (c : Core) (d : Dispatched) : Type 0 where
  pub core : IsCore d.core
  pub clock : d.core.kernel.clock ≡ c.kernel.clock
  pub switch : IsSwitch c d
  -- and no handler runs
  pub handler : c.kernel.handler ≡ None

pub record DispatchesAreStrict : Type 0 where
  pub dispatched : (c : Core) (d : Dispatched) → IsCore c → dispatches c ≡ Some d
      → DispatchKeeps c d
  -- where there is none, though another thread may run, none is better
  pub settled : (c : Core) → IsCore c → dispatches c ≡ None → may_dispatch c.kernel ≡ true
      → IsSettled c.kernel.threads
