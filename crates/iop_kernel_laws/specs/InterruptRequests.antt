-- What the law of interrupts' requests says: what a service of intrman does that registers nothing:
-- on which line it works and with which of its words, and what it answers.
use Rattle.std.specs.Prelude.{◌≡◌, ◌==◌, ◌<◌, ℕ, Bool, true, false, not, if◌then◌else◌, Option, Some, List}
use Rattle.iop_base.specs.Numbers.{one_if}
use Rattle.iop_base.specs.declared.code.Code.{Code}
use Rattle.iop_base.specs.declared.code.TheConstants.Code.{OK, INTERRUPTS_DISABLED}
use Rattle.iop_intr.specs.InterruptLines.{enabling, disabling, releasing}
use Rattle.iop_intr.specs.declared.irq_line.IrqLine.{IrqLine}
use Rattle.iop_intr.specs.declared.irqs.TheConstants.{IRQ_LINES}
use Rattle.iop_services.specs.declared.intrman_service.IntrmanService.{IntrmanService}
use Rattle.iop_services.specs.declared.intrman_service.IntrmanService.TheVariants.{ReleaseIntrHandler, EnableIntr, DisableIntr, CpuDisableIntr, CpuEnableIntr, CpuSuspendIntr, CpuResumeIntr, QueryIntrContext}
use Rattle.iop_kernel.specs.Boards.{Board, quiet, optional_place}
use Rattle.iop_kernel.specs.Interrupts.{serves_intrman}
use Rattle.iop_kernel.specs.System.{Core, Left, argument, in_handler, with_irqs, with_interrupts, answers, resumes, words_place}

-- a code is answered, and these lines are left
abbrev pub leaving_lines : Core → Code × List IrqLine → Left Core
leaving_lines c done = answers (with_irqs c done.1) done.0

-- interrupts are on from then on, or off
abbrev pub leaving_interrupts : Core → (on : Bool) → Code → Left Core
leaving_interrupts c on code = answers (with_interrupts c on) code

module _ (b : Board) where
  abbrev pub first : ℕ
  first = argument b.core 0

  -- a service leaves this of the kernel and its processor, and memory as it was
  abbrev pub Leaves : IntrmanService → Left Core → Type 0
  Leaves service left = serves_intrman b service ≡ quiet b.memory left

  -- the same of one that may write a word
  abbrev pub LeavesCore : IntrmanService → Left Core → Type 0
  LeavesCore service left = (serves_intrman b service).left.state.core ≡ left.state

  pub record ServesInterrupts : Type 0 where
    -- ReleaseIntrHandler, EnableIntr and DisableIntr: of a line
    pub release : Leaves ReleaseIntrHandler
        (leaving_lines b.core (releasing b.core.kernel.irqs first))
    pub enable_line : Leaves EnableIntr (leaving_lines b.core (enabling b.core.kernel.irqs first))
    pub disable_line : (place : Option ℕ) → first < IRQ_LINES
        → optional_place b.memory (argument b.core 1) ≡ Some place
        → LeavesCore DisableIntr (leaving_lines b.core (disabling b.core.kernel.irqs first))
    -- CpuDisableIntr and CpuSuspendIntr: they tell whether interrupts were on
    pub disable : Leaves CpuDisableIntr
        (if b.core.kernel.interrupts then leaving_interrupts b.core false OK
        else answers b.core INTERRUPTS_DISABLED)
    pub suspend : (place : ℕ) → words_place b.memory first 1 ≡ Some place
        → LeavesCore CpuSuspendIntr
        (leaving_interrupts b.core false
        (if b.core.kernel.interrupts then OK else INTERRUPTS_DISABLED))
    -- CpuEnableIntr; CpuResumeIntr leaves them off where its word is 0
    pub enable : Leaves CpuEnableIntr (leaving_interrupts b.core true OK)
    pub resume : Leaves CpuResumeIntr (leaving_interrupts b.core (not (first == 0)) OK)
    -- QueryIntrContext: whether a handler calls
    pub context : Leaves QueryIntrContext (resumes b.core (one_if (in_handler b.core.kernel)))

-- each of them by its service
abbrev pub InterruptRequestsAreServed : Type 0
InterruptRequestsAreServed = (b : Board) → ServesInterrupts b
