-- What the laws of handlers say: with which registers one begins, and what a result does to the
-- line or the alarm that it is for.
use Rattle.std.specs.Prelude.{◌≡◌, ◌≢◌, ℕ, true, false, Some, None, IsSome, List, All}
use Rattle.iop_exec.specs.Row.{reg}
use Rattle.iop_intr.specs.InterruptLines.{line_of}
use Rattle.iop_intr.specs.declared.handler.Handler.{Handler}
use Rattle.iop_intr.specs.declared.irq_line.IrqLine.{IrqLine}
use Rattle.iop_thread.specs.FirstRegisters.{BeginsWith}
use Rattle.iop_time.specs.Laws.{AlarmsAreGone, IsSetAgain}
use Rattle.iop_time.specs.Timers.{Timers}
use Rattle.iop_kernel.specs.Handlers.{begins_handler, return_handler}
use Rattle.iop_kernel.specs.Placing.{IsPlaced}
use Rattle.iop_kernel.specs.System.{Kernel, Core}
use Rattle.iop_kernel.specs.declared.active_handler.ActiveHandler.{ActiveHandler}
use Rattle.iop_kernel.specs.declared.active_handler.Cause.{Cause}
use Rattle.iop_kernel.specs.declared.active_handler.Cause.TheVariants.{Line, Alarm}
use Rattle.iop_kernel.specs.declared.active_handler.TheConstants.{HANDLER_RETURN, HANDLER_STACK}

-- a handler begins with its argument, the `$gp` of who registered it, the handlers' stack, and the
-- place where a handler returns to
abbrev pub HandlersBeginWith : Type 0
HandlersBeginWith =
    (c : Core) (cause : Cause) (handler : Handler)
    → BeginsWith (begins_handler c cause handler).cpu handler.address handler.arg 0 handler.gp
    HANDLER_STACK HANDLER_RETURN

-- 0 disables a line, also where it was enabled meanwhile; another result enables it where it still
-- has a handler, and changes nothing where it has none. It stays raised or not and keeps its
-- handler, and all other lines are as they were
pub record LineIsGiven (line value : ℕ) (old left : List IrqLine) : Type 0 where
  pub zero : value ≡ 0 → (line_of left line).enabled ≡ false
  pub another : value ≢ 0 → IsSome (line_of old line).handler
      → (line_of left line).enabled ≡ true
  pub no_handler : value ≢ 0 → (line_of old line).handler ≡ None
      → (line_of left line).enabled ≡ (line_of old line).enabled
  pub raised : (line_of left line).raised ≡ (line_of old line).raised
  pub handler : (line_of left line).handler ≡ (line_of old line).handler
  pub others : (n : ℕ) → n ≢ line → line_of left n ≡ line_of old n

-- 0 removes an alarm; another result sets it again, so many ticks after its old moment, with its
-- number. No other alarm and no delay changes; where the alarm was cancelled, so that none has its
-- number, nothing does
pub record AlarmIsGiven (number value : ℕ) (old left : Timers) : Type 0 where
  pub zero : value ≡ 0 → AlarmsAreGone old left (λ alarm. alarm.number ≡ number)
  pub another : value ≢ 0 → IsSetAgain old left number value
  pub cancelled : All (λ alarm. alarm.number ≢ number) old.alarms → left ≡ old

-- a result was given to what the handler was begun for, and to nothing else
abbrev pub ResultIsGiven : Cause → (value : ℕ) → (old left : Kernel) → Type 0
ResultIsGiven (Line line) value old left =
    LineIsGiven line value old.irqs left.irqs × (left.timers ≡ old.timers)
ResultIsGiven (Alarm number) value old left =
    AlarmIsGiven number value old.timers left.timers × (left.irqs ≡ old.irqs)

-- the result of a handler that returns stands in `$v0`
abbrev pub ResultsAreGiven : Type 0
ResultsAreGiven =
    (c : Core) (handler : ActiveHandler) → IsPlaced c.kernel → c.kernel.handler ≡ Some handler
    → ResultIsGiven handler.cause (reg c.cpu 2) c.kernel (return_handler c).state.kernel
