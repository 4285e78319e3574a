-- What holds in each state of a run, so that it can be resumed from a snapshot: this project's own
-- profile.
use Rattle.std.specs.Prelude.{◌≡◌, ◌+◌, ◌≤◌, true, false, None, length, All}
use Rattle.iop_intr.specs.declared.irqs.TheConstants.{IRQ_LINES}
use Rattle.iop_kernel.specs.Dispatching.{dispatches}
use Rattle.iop_kernel.specs.System.{Core}
use Rattle.iop_machine.specs.Iop.{core_of}
use Rattle.iop_machine.specs.Loader.{is_between, loader_is_dormant, may_have_begun}
use Rattle.iop_machine.specs.Modules.{CanBeLeft}
use Rattle.iop_machine.specs.Restoring.{loading_of}
use Rattle.iop_machine.specs.ScriptWords.{WordsCanStand}
use Rattle.iop_machine.specs.World.{World}
use Rattle.iop_registry.specs.Entries.{IsRegistry}
use Rattle.iop_resumable.specs.Regular.{IsRegular}
use Rattle.iop_saved_checks.specs.Made.{AreMade}
use Rattle.iop_saved_kernel.specs.Laws.{IsReadable}
use Rattle.iop_saved_machine.specs.Loading.{LoadingIsShort}
use Rattle.irx_tables.specs.declared.words.TheConstants.{HEADER_BYTES}

-- a kernel and its processor between two steps
pub record IsResumableCore (c : Core) : Type 0 where
  -- they are as they can be put back, and the processor is as it is read
  pub regular : IsRegular c
  pub cpu : IsReadable c.cpu
  -- where the processor stands in a delay slot, no thread is dispatched
  pub slot : c.cpu.in_slot ≡ true → dispatches c ≡ None
  -- all interrupt lines stand
  pub lines : length c.kernel.irqs ≡ IRQ_LINES

-- a machine that can be resumed
pub record IsResumable (w : World) : Type 0 where
  pub core : IsResumableCore (core_of w.iop)
  pub modules : CanBeLeft w.iop.modules
  -- the lists of its modules and of its script have room in their counts
  pub short : LoadingIsShort (loading_of w.iop)
  pub libraries : IsRegistry w.iop.libraries
  -- the table of each library has its header in RAM
  pub headers : All (λ entry. entry.table + HEADER_BYTES ≤ length w.iop.memory.ram) w.iop.libraries
  -- the script has one list of words at most for each module and each name, and names are short
  pub words : WordsCanStand w.iop.modules
  -- the module that is begun can run, if there is one
  pub begun : may_have_begun (length w.iop.memory.ram) w.iop.modules.next w.iop.begun ≡ true
  -- the loader's thread is dormant before the machine is booted, and then where no module is begun
  pub new : w.is_new ≡ true → loader_is_dormant w.iop.kernel ≡ true
  pub loader : w.is_new ≡ false
      → is_between (loader_is_dormant w.iop.kernel) (length w.iop.modules.files) w.iop.begun ≡ true
  -- threads and pools are such as the calls of a guest make them
  pub made : AreMade (length w.iop.memory.ram) w.iop.kernel
