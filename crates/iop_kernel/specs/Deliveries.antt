-- Deliveries of interrupt lines, alarms and delays (ps2sdk: intrman, thbase). When one comes, and
-- in which order, is this project's own profile.
use Rattle.std.specs.Prelude.{ℕ, ◌+◌, ◌&&◌, ◌||◌, not, Bool, if◌then◌else◌, is_some, Option, Some, None}
use Rattle.iop_base.specs.Piece.{Piece, Traced}
use Rattle.iop_base.specs.Text.{line_bytes}
use Rattle.iop_base.specs.declared.code.TheConstants.Code.{OK}
use Rattle.iop_base.specs.declared.line.Line.TheVariants as lines
use Rattle.iop_intr.specs.InterruptLines.{line_of, raising, lowering, deliverable, delivering}
use Rattle.iop_intr.specs.declared.handler.Handler.{Handler}
use Rattle.iop_time.specs.Taking.{takes_due}
use Rattle.iop_time.specs.Timers.{Timers}
use Rattle.iop_time.specs.Turns.{next_moment}
use Rattle.iop_time.specs.declared.due.Due.{Due}
use Rattle.iop_time.specs.declared.due.Due.TheVariants as due
use Rattle.iop_kernel.specs.Handlers.{alarm_handler, begins_handler}
use Rattle.iop_kernel.specs.System.{Kernel, Core, in_handler, with_timers, with_irqs}
use Rattle.iop_kernel.specs.Waits.{wakes_with}
use Rattle.iop_kernel.specs.declared.active_handler.Cause.TheVariants as causes

-- an interrupt line is raised
abbrev pub raises : Kernel → (line : ℕ) → Kernel
raises k line = record k { irqs = raising k.irqs line }

-- an interrupt line is lowered
abbrev pub lowers : Kernel → (line : ℕ) → Kernel
lowers k line = record k { irqs = lowering k.irqs line }

-- what a delivery leaves, and its line
pub record Delivered : Type 0 where
  pub core : Core
  pub line : Piece

-- whether a thread runs that stands between a branch and its slot
abbrev pub is_in_slot : Core → Bool
is_in_slot c = is_some c.kernel.threads.running && c.cpu.in_slot

-- whether something may be delivered
abbrev pub may_deliver : Core → Bool
may_deliver c = c.kernel.interrupts && not (in_handler c.kernel) && not (is_in_slot c)

module _ (c : Core) where
  -- a line is lowered and disabled, and its handler begins
  abbrev pub delivers_line : (line : ℕ) → Option Handler → Option Delivered
  delivers_line line None = None
  delivers_line line (Some handler) =
      let lowered = with_irqs c (delivering c.kernel.irqs line) in
      Some (record {
        core = begins_handler lowered (causes.Line line) handler;
        line = Traced (line_bytes c.kernel.clock (lines.Irq line));
      })

  -- the handler of an alarm begins; the thread of a delay is woken with 0
  abbrev pub delivers_due : Option Due × Timers → Option Delivered
  delivers_due (None, left) = None
  delivers_due (Some (due.Alarm alarm), left) = Some (record {
    core = begins_handler (with_timers c left) (causes.Alarm alarm.number)
        (alarm_handler alarm);
    line = Traced (line_bytes c.kernel.clock (lines.Alarm alarm.number));
  })
  delivers_due (Some (due.Delay delay), left) = Some (record {
    core = wakes_with (with_timers c left) delay.thread OK;
    line = Traced (line_bytes c.kernel.clock (lines.Due delay.thread));
  })

  -- first comes the lowest line, then the alarm or the delay of the least moment that has come, and
  -- at one moment that of the least number
  abbrev pub delivers_by : (line : Option ℕ) → Option Delivered
  delivers_by (Some line) = delivers_line line (line_of c.kernel.irqs line).handler
  delivers_by None = delivers_due (takes_due c.kernel.timers c.kernel.clock)

  -- where interrupts are on, no handler runs, and no thread stands between a branch and its slot
  unfoldable pub delivers : Option Delivered
  delivers = if may_deliver c then delivers_by (deliverable c.kernel.irqs) else None

-- where nothing is delivered now, the next moment at which something may be, as long as nothing but
-- plain instructions is executed: none while interrupts are off or a handler runs
abbrev pub next_look : Core → Option ℕ
next_look c =
    if in_handler c.kernel || not c.kernel.interrupts then None
    else if is_in_slot c then Some (c.kernel.clock + 1)
    else next_moment c.kernel.timers
