-- What the laws of what can be put back say.
use Rattle.std.specs.Prelude.{◌≡◌, ℕ, ◌^◌, ◌<◌, ◌≤◌, Some, List, length}
use Rattle.iop_exec.specs.declared.cpu.Cpu.{Cpu}
use Rattle.iop_intr.specs.declared.irq_line.IrqLine.{IrqLine}
use Rattle.iop_intr.specs.declared.irqs.TheConstants.{IRQ_LINES}
use Rattle.iop_kernel.specs.Deliveries.{Delivered, delivers}
use Rattle.iop_kernel.specs.DeliveryLaws.{at_moment}
use Rattle.iop_kernel.specs.Dispatching.{Dispatched, dispatches}
use Rattle.iop_kernel.specs.Laws.{IsCore}
use Rattle.iop_kernel.specs.Placing.{IsPlaced}
use Rattle.iop_kernel.specs.Registers.{IsBare}
use Rattle.iop_kernel.specs.Serving.{services}
use Rattle.iop_kernel.specs.System.{Core, System, beginning, with_irqs, with_threads}
use Rattle.iop_saved_kernel.specs.Laws.{CanBeBack, IsReadable, IsReadableKept, IsSteadyCore}
use Rattle.iop_saved_checks.specs.Made.{AreMade}
use Rattle.iop_sysmem.specs.BlockMap.{AreBlocks}
use Rattle.iop_sysmem.specs.declared.blocks.TheConstants.{KERNEL}
use Rattle.iop_thread.specs.Operations.{begins, ends_running}
use Rattle.iop_time.specs.Timers.{AreTimers}
use Rattle.iop_resumable.specs.Regular.{ObjectsCanStand, IsRegular, StandsStill}

-- a kernel that serves: threads and those that wait are in their places, and memory is of blocks
pub record IsServing (s : System) : Type 0 where
  pub placed : IsPlaced s.core.kernel
  pub blocks : AreBlocks s.blocks
  pub size : s.blocks.size < 2 ^ 32

-- the objects stay as they can be put back
abbrev pub ObjectsStayRegular : Type 0
ObjectsStayRegular =
    (s : System) (code : ℕ) → IsServing s → ObjectsCanStand s.core.kernel
    → ObjectsCanStand (services s code).left.state.core.kernel

-- and so does the whole kernel, with its processor
abbrev pub ServicesStayRegular : Type 0
ServicesStayRegular =
    (s : System) (code : ℕ) → IsServing s → StandsStill s.core
    → StandsStill (services s code).left.state.core

-- what can be said of a kernel and its processor at all times suffices to put them back
pub record CoresCanBeBack : Type 0 where
  pub back : (c : Core) → IsCore c → IsRegular c → IsBare c
      → c.kernel.timers.next < 2 ^ 64 → CanBeBack c
  pub steady : (c : Core) → IsRegular c → IsReadable c.cpu → IsSteadyCore c

-- at first a kernel is so, whatever its processor has that can be read back
abbrev pub BeginningIsRegular : Type 0
BeginningIsRegular =
    (cpu : Cpu) → IsReadableKept cpu → StandsStill (record { kernel = beginning; cpu = cpu })

-- a regular kernel in which something may be delivered, with all of its interrupt lines
pub record HasDeliveries (c : Core) : Type 0 where
  pub regular : IsRegular c
  pub cpu : IsReadable c.cpu
  pub bare : IsBare c
  pub timers : AreTimers c.kernel.timers
  pub lines : length c.kernel.irqs ≡ IRQ_LINES

-- it stays so over all that a machine does beside its services
pub record StepsStayRegular : Type 0 where
  -- what is delivered comes in no delay slot
  pub delivers : (c : Core) (d : Delivered) → HasDeliveries c → delivers c ≡ Some d
      → StandsStill d.core
  pub dispatches : (c : Core) (d : Dispatched) → StandsStill c → dispatches c ≡ Some d
      → StandsStill d.core
  -- the loader's thread begins, and ends
  pub begins : (c : Core) (registers : Cpu) → IsRegular c → IsReadableKept registers
      → IsRegular (with_threads c (begins c.kernel.threads registers))
  pub ends_running : (c : Core) → IsRegular c
      → IsRegular (with_threads c (ends_running c.kernel.threads))
  -- it is another moment, and the processor is another
  pub moves_on : (c : Core) (moment : ℕ) (cpu : Cpu) → IsRegular c
      → IsRegular (at_moment c moment cpu)
  -- interrupt lines are raised
  pub raises : (c : Core) (irqs : List IrqLine) → IsRegular c → IsRegular (with_irqs c irqs)

-- no service, no delivery and no dispatch makes another number of interrupt lines
pub record LinesStay : Type 0 where
  pub services : (s : System) (code : ℕ)
      → length (services s code).left.state.core.kernel.irqs ≡ length s.core.kernel.irqs
  pub delivers : (c : Core) (d : Delivered) → delivers c ≡ Some d
      → length d.core.kernel.irqs ≡ length c.kernel.irqs
  pub dispatches : (c : Core) (d : Dispatched) → dispatches c ≡ Some d
      → length d.core.kernel.irqs ≡ length c.kernel.irqs

-- threads and pools stay such as calls make them, in RAM of so many bytes
pub record KernelsStayMade : Type 0 where
  -- at first they are so where RAM has room for the kernel's block
  pub beginning : (size : ℕ) → KERNEL.size ≤ size → AreMade size beginning
  -- whatever is served, where each place of memory is its own address
  pub services : (s : System) (code : ℕ) → IsServing s → s.blocks.size ≤ 2 ^ 29
      → AreMade s.blocks.size s.core.kernel
      → AreMade s.blocks.size (services s code).left.state.core.kernel
  -- and over all that a machine does beside its services
  pub delivers : (size : ℕ) (c : Core) (d : Delivered) → AreMade size c.kernel
      → delivers c ≡ Some d → AreMade size d.core.kernel
  pub dispatches : (size : ℕ) (c : Core) (d : Dispatched) → AreMade size c.kernel
      → dispatches c ≡ Some d → AreMade size d.core.kernel
  pub begins : (size : ℕ) (c : Core) (registers : Cpu) → AreMade size c.kernel
      → AreMade size (with_threads c (begins c.kernel.threads registers)).kernel
  pub ends_running : (size : ℕ) (c : Core) → AreMade size c.kernel
      → AreMade size (with_threads c (ends_running c.kernel.threads)).kernel
  pub moves_on : (size : ℕ) (c : Core) (moment : ℕ) (cpu : Cpu) → AreMade size c.kernel
      → AreMade size (at_moment c moment cpu).kernel
  pub raises : (size : ℕ) (c : Core) (irqs : List IrqLine) → AreMade size c.kernel
      → AreMade size (with_irqs c irqs).kernel
