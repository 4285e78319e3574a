-- What holds after each service of interrupts, and of alarms.
use Rattle.std.proofs.Common.{ℕ, false, Option, Some, None, List, [], refl, ◌∷◌}
use Rattle.iop_base.specs.Numbers.{one_if}
use Rattle.iop_base.specs.Piece.{Piece}
use Rattle.iop_base.specs.declared.code.Code.{Code}
use Rattle.iop_base.specs.declared.code.TheConstants.Code.{ILLEGAL_INTERRUPT}
use Rattle.iop_intr.specs.InterruptLines.{disabling}
use Rattle.iop_intr.specs.declared.irq_line.IrqLine.{IrqLine}
use Rattle.iop_time.specs.ClockTime.{moment_after}
use Rattle.iop_kernel.specs.Boards.{board_of, optional_place}
use Rattle.iop_kernel.specs.Interrupts.{disable_interrupts, suspended_code, disables_by, disables_at, suspends_at}
use Rattle.iop_kernel.specs.System.{System}
use Rattle.iop_kernel.specs.SystemClock.{sets_alarm_at, ticks_in}
use Rattle.iop_kernel.specs.Waits.{is_code}
use Rattle.iop_kernel.specs.declared.after.After.{After}
use Rattle.iop_kernel.proofs.Keeping.Memory.{WordsFit, PlaceFits, optional_fits}
use Rattle.iop_kernel.proofs.Walk.Moves.{EachMoves, AlarmMoves, InterruptMoves, CoreEnds, BoardEnds}
use Rattle.iop_kernel.proofs.Walk.Stores.{written, either_board}
use Rattle.iop_kernel.proofs.Walk.Threads.{answers_after, only, either}

module _ {P : System → List Piece → Type 0} {Q : After → System → List Piece → Type 0}
    {Asks : Type 0} {s : System} (e : EachMoves P Q Asks s) (l : AlarmMoves P Q Asks s) where
  -- an alarm is set, by the place of the ticks
  pub sets_alarm_goes : (o : Option ℕ) (handler arg : ℕ)
      → CoreEnds Q s (sets_alarm_at s.core s.memory o handler arg)
  sets_alarm_goes None handler arg = e.bad_place
  sets_alarm_goes (Some place) handler arg =
      answers_after e _ _
      (l.sets (moment_after s.core.kernel.clock (ticks_in s.memory place)) handler arg)

module _ {P : System → List Piece → Type 0} {Q : After → System → List Piece → Type 0}
    {Asks : Type 0} {s : System} (e : EachMoves P Q Asks s) (i : InterruptMoves P Q Asks s) where
  -- interrupts are turned off
  pub disables_go : CoreEnds Q s (disable_interrupts s.core)
  disables_go =
      either e s.core.kernel.interrupts _ _ (λ on. answers_after e _ _ (i.turns false))
      (λ off. only e _)

  -- a line is disabled, by what that came to
  disables_by_go : (line : ℕ) (place : Option ℕ) → WordsFit s.memory place 1
      → (r : Code × List IrqLine) → BoardEnds Q s (disables_by (board_of s) line place r)
  disables_by_go line place fits (code, left) =
      either_board e (is_code code ILLEGAL_INTERRUPT) _ _ (λ illegal. only e _)
      (λ other. written e place (line ∷ []) _ code fits (i.lines left))

  disables_at_goes : (line : ℕ) (o : Option (Option ℕ)) → PlaceFits s o
      → BoardEnds Q s (disables_at (board_of s) line o)
  disables_at_goes line None fits = e.bad_place
  disables_at_goes line (Some place) fits =
      disables_by_go line place (fits place refl) (disabling s.core.kernel.irqs line)

  pub disables_line_goes : (line at : ℕ)
      → BoardEnds Q s (disables_at (board_of s) line (optional_place s.memory at))
  disables_line_goes line at =
      disables_at_goes line (optional_place s.memory at) (optional_fits s at)

  -- interrupts are turned off
  pub suspends_goes : (o : Option ℕ) → WordsFit s.memory o 1
      → BoardEnds Q s (suspends_at (board_of s) o)
  suspends_goes None fits = e.bad_place
  suspends_goes (Some place) fits =
      written e (Some place) (one_if s.core.kernel.interrupts ∷ []) _
      (suspended_code s.core.kernel.interrupts) fits (i.turns false)
