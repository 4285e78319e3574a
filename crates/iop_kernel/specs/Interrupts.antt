-- The services of intrman (ps2sdk: intrman.h; the codes are those of its kerr.h). The conditions
-- and the order of the refusals, and the word that DisableIntr writes, are this project's own
-- profile.
use Rattle.std.specs.Prelude.{ℕ, ◌==◌, Bool, true, false, not, if◌then◌else◌, Option, Some, None, List, [], ◌∷◌}
use Rattle.iop_base.specs.Numbers.{one_if}
use Rattle.iop_base.specs.declared.code.Code.{Code}
use Rattle.iop_base.specs.declared.code.TheConstants.Code.{OK, ILLEGAL_INTERRUPT, INTERRUPTS_DISABLED}
use Rattle.iop_base.specs.declared.guest_fault.GuestFault.TheVariants.{Address}
use Rattle.iop_exec.specs.Row.{reg}
use Rattle.iop_intr.specs.InterruptLines.{handler_of, registering, releasing, enabling, disabling}
use Rattle.iop_intr.specs.declared.irq_line.IrqLine.{IrqLine}
use Rattle.iop_services.specs.declared.intrman_service.IntrmanService.{IntrmanService}
use Rattle.iop_services.specs.declared.intrman_service.IntrmanService.TheVariants as service
use Rattle.iop_kernel.specs.Boards.{Board, quiet, writes_with, optional_place}
use Rattle.iop_kernel.specs.System.{Core, Left, Done, in_handler, argument, with_irqs, with_interrupts, resumes, answers, faults, words_place}
use Rattle.iop_kernel.specs.Waits.{is_code}

module _ (c : Core) where
  -- an operation on interrupt lines answers a code
  abbrev pub leaves_irqs : Code × List IrqLine → Left Core
  leaves_irqs (code, left) = answers (with_irqs c left) code

  -- RegisterIntrHandler: the handler begins with the `$gp` of the caller
  abbrev pub register_handler : (line handler arg : ℕ) → Left Core
  register_handler line handler arg =
      leaves_irqs (registering c.kernel.irqs line (handler_of handler arg (reg c.cpu 28)))

  -- ReleaseIntrHandler
  abbrev pub release_handler : (line : ℕ) → Left Core
  release_handler line = leaves_irqs (releasing c.kernel.irqs line)

  -- EnableIntr
  abbrev pub enable_line : (line : ℕ) → Left Core
  enable_line line = leaves_irqs (enabling c.kernel.irqs line)

  -- CpuDisableIntr
  abbrev pub disable_interrupts : Left Core
  disable_interrupts =
      if c.kernel.interrupts then answers (with_interrupts c false) OK
      else answers c INTERRUPTS_DISABLED

  -- CpuEnableIntr
  abbrev pub enable_interrupts : Left Core
  enable_interrupts = answers (with_interrupts c true) OK

  -- CpuResumeIntr: they are on afterwards unless the word is 0
  abbrev pub resume_interrupts : (state : ℕ) → Left Core
  resume_interrupts state = answers (with_interrupts c (not (state == 0))) OK

  -- QueryIntrContext: 1 where a handler calls
  abbrev pub query_context : Left Core
  query_context = resumes c (one_if (in_handler c.kernel))

-- what to turn interrupts off answers, by whether they were on
abbrev pub suspended_code : (were_on : Bool) → Code
suspended_code were_on = if were_on then OK else INTERRUPTS_DISABLED

module _ (b : Board) where
  -- by what the disabling came to: the number of the line is written, also where it was disabled
  abbrev pub disables_by : (line : ℕ) → Option ℕ → Code × List IrqLine → Done Board
  disables_by line place (code, left) =
      if is_code code ILLEGAL_INTERRUPT then quiet b.memory (answers b.core code)
      else writes_with b.memory place (line ∷ []) (with_irqs b.core left) code

  -- by the place for the number
  abbrev pub disables_at : (line : ℕ) → Option (Option ℕ) → Done Board
  disables_at line None = quiet b.memory (faults b.core Address)
  disables_at line (Some place) = disables_by line place (disabling b.core.kernel.irqs line)

  -- DisableIntr
  abbrev pub disable_line : (line at : ℕ) → Done Board
  disable_line line at = disables_at line (optional_place b.memory at)

  -- by the place for the word that tells whether interrupts were on
  abbrev pub suspends_at : Option ℕ → Done Board
  suspends_at None = quiet b.memory (faults b.core Address)
  suspends_at (Some place) =
      let were_on = b.core.kernel.interrupts in
      writes_with b.memory (Some place) (one_if were_on ∷ []) (with_interrupts b.core false)
      (suspended_code were_on)

  -- CpuSuspendIntr
  abbrev pub suspend_interrupts : (at : ℕ) → Done Board
  suspend_interrupts at = suspends_at (words_place b.memory at 1)

-- a service of intrman
unfoldable pub serves_intrman : Board → IntrmanService → Done Board
serves_intrman b service.RegisterIntrHandler =
    quiet b.memory
    (register_handler b.core (argument b.core 0) (argument b.core 2) (argument b.core 3))
serves_intrman b service.ReleaseIntrHandler =
    quiet b.memory (release_handler b.core (argument b.core 0))
serves_intrman b service.EnableIntr = quiet b.memory (enable_line b.core (argument b.core 0))
serves_intrman b service.DisableIntr = disable_line b (argument b.core 0) (argument b.core 1)
serves_intrman b service.CpuDisableIntr = quiet b.memory (disable_interrupts b.core)
serves_intrman b service.CpuEnableIntr = quiet b.memory (enable_interrupts b.core)
serves_intrman b service.CpuSuspendIntr = suspend_interrupts b (argument b.core 0)
serves_intrman b service.CpuResumeIntr =
    quiet b.memory (resume_interrupts b.core (argument b.core 0))
serves_intrman b service.QueryIntrContext = quiet b.memory (query_context b.core)
