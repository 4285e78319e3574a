-- The handlers of interrupt lines and of alarms: how they begin and return (ps2sdk: intrman.h,
-- thbase.h). Their first registers, what their results do, and that a return turns interrupts on,
-- are this project's own profile.
use Rattle.std.specs.Prelude.{ℕ, ◌==◌, true, if◌then◌else◌, Option, Some, None}
use Rattle.iop_base.specs.declared.guest_fault.GuestFault.TheVariants.{Service}
use Rattle.iop_exec.specs.Row.{reg, with_reg}
use Rattle.iop_exec.specs.declared.cpu.Cpu.{Cpu}
use Rattle.iop_intr.specs.InterruptLines.{finishing, handler_of}
use Rattle.iop_intr.specs.declared.handler.Handler.{Handler}
use Rattle.iop_thread.specs.States.{zeroed_at}
use Rattle.iop_time.specs.Timers.{Timers, removes, sets_again}
use Rattle.iop_time.specs.declared.alarm.Alarm.{Alarm as TimedAlarm}
use Rattle.iop_kernel.specs.System.{Kernel, Core, Left, switches, faults}
use Rattle.iop_kernel.specs.declared.active_handler.ActiveHandler.{ActiveHandler}
use Rattle.iop_kernel.specs.declared.active_handler.Cause.{Cause}
use Rattle.iop_kernel.specs.declared.active_handler.Cause.TheVariants.{Line, Alarm}
use Rattle.iop_kernel.specs.declared.active_handler.TheConstants.{HANDLER_RETURN, HANDLER_STACK}

-- the registers with which a handler begins: all zero but `$a0` its argument, `$gp` that of who
-- registered it, `$sp` in the handlers' stack, `$ra` where a handler returns to
abbrev pub handler_registers : Handler → Cpu
handler_registers handler =
    let with_arg = with_reg (zeroed_at handler.address) 4 handler.arg in
    with_reg (with_reg (with_reg with_arg 28 handler.gp) 29 HANDLER_STACK) 31 HANDLER_RETURN

-- that of an alarm
abbrev pub alarm_handler : TimedAlarm → Handler
alarm_handler alarm = handler_of alarm.handler alarm.arg alarm.gp

abbrev pub handler_for : Cause → (kept : Cpu) → ActiveHandler
handler_for cause kept = record { cause = cause; kept = kept }

-- a handler begins; the registers of the thread that ran are kept
abbrev pub begins_handler : Core → Cause → Handler → Core
begins_handler c cause handler = record {
  kernel = record c.kernel { handler = Some (handler_for cause c.cpu) };
  cpu = handler_registers handler;
}

-- what its handler's result does to an alarm: 0 removes it, another number sets it again, so many
-- ticks after its old moment
abbrev pub alarm_gives : Timers → (number value : ℕ) → Timers
alarm_gives timers number value =
    if value == 0 then removes timers number else sets_again timers number value

-- what a handler's result does to what it was begun for
abbrev pub gives_result : Kernel → Cause → (value : ℕ) → Kernel
gives_result k (Line line) value = record k { irqs = finishing k.irqs line value }
gives_result k (Alarm number) value =
    record k { timers = alarm_gives k.timers number value }

-- a handler returned a word: interrupts are on, and what was kept is the processor's again
abbrev pub handler_returned : Core → ActiveHandler → (value : ℕ) → Core
handler_returned c handler value = record {
  kernel =
      record (gives_result c.kernel handler.cause value) { interrupts = true; handler = None };
  cpu = handler.kept;
}

-- by the handler that runs: it returns what stands in `$v0`; nothing else can return so
abbrev pub returns_handler : Core → Option ActiveHandler → Left Core
returns_handler c None = faults c Service
returns_handler c (Some handler) = switches (handler_returned c handler (reg c.cpu 2))

abbrev pub return_handler : Core → Left Core
return_handler c = returns_handler c c.kernel.handler
