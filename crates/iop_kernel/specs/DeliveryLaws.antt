-- What the laws of deliveries say: what comes first, where nothing comes, and what a delivery
-- leaves as it was.
use Rattle.std.specs.Prelude.{◌≡◌, ℕ, ◌<◌, ◌≤◌, true, false, Some, None, IfSome, ◌⊎◌}
use Rattle.iop_base.specs.Piece.{Traced}
use Rattle.iop_base.specs.Text.{line_bytes}
use Rattle.iop_base.specs.declared.code.TheConstants.Code.{OK}
use Rattle.iop_base.specs.declared.line.Line.TheVariants as lines
use Rattle.iop_exec.specs.declared.cpu.Cpu.{Cpu}
use Rattle.iop_intr.specs.InterruptLines.{line_of}
use Rattle.iop_intr.specs.Laws.{CanBeDelivered, IsLowest, IsDelivered}
use Rattle.iop_intr.specs.declared.handler.Handler.{Handler}
use Rattle.iop_time.specs.Laws.{IsNext, IsTaken}
use Rattle.iop_time.specs.declared.alarm.Alarm.{Alarm}
use Rattle.iop_time.specs.declared.delay.Delay.{Delay}
use Rattle.iop_time.specs.declared.due.Due.TheVariants as due
use Rattle.iop_kernel.specs.Deliveries.{Delivered, may_deliver, delivers, next_look}
use Rattle.iop_kernel.specs.Handlers.{handler_registers}
use Rattle.iop_kernel.specs.Laws.{IsCore}
use Rattle.iop_kernel.specs.Overdue.{NoMomentHasCome}
use Rattle.iop_kernel.specs.System.{Kernel, Core}
use Rattle.iop_kernel.specs.Waits.{wakes_with}
use Rattle.iop_kernel.specs.declared.active_handler.Cause.{Cause}
use Rattle.iop_kernel.specs.declared.active_handler.Cause.TheVariants as causes

-- no line can be delivered
abbrev pub NoLineComes : Kernel → Type 0
NoLineComes k = (n : ℕ) → CanBeDelivered (line_of k.irqs n) → ⊥

-- a handler begins for this, and what the processor had is kept; the threads stay as they were
pub record Begins (c : Core) (d : Delivered) (cause : Cause) (handler : Handler) : Type 0 where
  pub active : d.core.kernel.handler ≡ Some (record { cause = cause; kept = c.cpu })
  pub registers : d.core.cpu ≡ handler_registers handler
  pub threads : d.core.kernel.threads ≡ c.kernel.threads

-- the lowest line that can be delivered is delivered
pub record DeliversLine (c : Core) (d : Delivered) (line : ℕ) : Type 0 where
  pub lowest : IsLowest c.kernel.irqs line
  pub lowered : IsDelivered c.kernel.irqs d.core.kernel.irqs line
  pub timers : d.core.kernel.timers ≡ c.kernel.timers
  pub handler : Handler
  pub registered : (line_of c.kernel.irqs line).handler ≡ Some handler
  pub begins : Begins c d (causes.Line line) handler
  pub told : d.line ≡ Traced (line_bytes c.kernel.clock (lines.Irq line))

-- an alarm is delivered, before which nothing comes; it stands on
pub record DeliversAlarm (c : Core) (d : Delivered) (alarm : Alarm) : Type 0 where
  pub no_line : NoLineComes c.kernel
  pub irqs : d.core.kernel.irqs ≡ c.kernel.irqs
  pub next : IsNext c.kernel.timers c.kernel.clock alarm.moment alarm.number
  pub taken : IsTaken c.kernel.timers d.core.kernel.timers (due.Alarm alarm)
  pub begins : Begins c d (causes.Alarm alarm.number)
      (record { address = alarm.handler; arg = alarm.arg; gp = alarm.gp })
  pub told : d.line ≡ Traced (line_bytes c.kernel.clock (lines.Alarm alarm.number))

-- a delay is delivered, before which nothing comes: it is gone, and its thread is woken with 0
pub record DeliversDelay (c : Core) (d : Delivered) (delay : Delay) : Type 0 where
  pub no_line : NoLineComes c.kernel
  pub irqs : d.core.kernel.irqs ≡ c.kernel.irqs
  pub next : IsNext c.kernel.timers c.kernel.clock delay.moment delay.number
  pub taken : IsTaken c.kernel.timers d.core.kernel.timers (due.Delay delay)
  pub handler : d.core.kernel.handler ≡ None
  pub processor : d.core.cpu ≡ c.cpu
  pub woken : d.core.kernel.threads ≡ (wakes_with c delay.thread OK).kernel.threads
  pub told : d.line ≡ Traced (line_bytes c.kernel.clock (lines.Due delay.thread))

-- one of the three is delivered
abbrev pub DeliversFirst : Core → Delivered → Type 0
DeliversFirst c d =
    ((line : ℕ) × DeliversLine c d line)
    ⊎ (((alarm : Alarm) × DeliversAlarm c d alarm) ⊎ ((delay : Delay) × DeliversDelay c d delay))

-- when a delivery is made
pub record IsOpenToDelivery (c : Core) : Type 0 where
  pub interrupts : c.kernel.interrupts ≡ true
  pub handler : c.kernel.handler ≡ None
  -- no thread is kept from the instruction in its branch's slot
  pub slot : (r : ℕ) → c.kernel.threads.running ≡ Some r → c.cpu.in_slot ≡ false

-- what a delivery keeps
pub record DeliveryKeeps (c : Core) (d : Delivered) : Type 0 where
  pub allowed : IsOpenToDelivery c
  pub first : DeliversFirst c d
  pub core : IsCore d.core
  -- the rest stays as it was: the moment, whether interrupts are on and dispatch is enabled, what
  -- threads can wait for, and which thread runs
  pub kernel : d.core.kernel
      ≡ record c.kernel {
        handler = d.core.kernel.handler;
        threads = d.core.kernel.threads;
        timers = d.core.kernel.timers;
        irqs = d.core.kernel.irqs;
      }
  pub running : d.core.kernel.threads.running ≡ c.kernel.threads.running

-- the same kernel at a moment, with this processor
abbrev pub at_moment : Core → (moment : ℕ) → Cpu → Core
at_moment c moment cpu = record { kernel = record c.kernel { clock = moment }; cpu = cpu }

pub record DeliveriesAreInOrder : Type 0 where
  pub delivered : (c : Core) (d : Delivered) → IsCore c → delivers c ≡ Some d → DeliveryKeeps c d
  -- where there is none, though something may be delivered, nothing has come: no alarm and no delay
  -- is overdue
  pub no_line : (c : Core) → delivers c ≡ None → may_deliver c ≡ true → NoLineComes c.kernel
  pub no_moment : (c : Core) → delivers c ≡ None → may_deliver c ≡ true → NoMomentHasCome c.kernel
  -- where there is none, there is none before the next look, whatever the processor does meanwhile
  pub look : (c : Core) (moment : ℕ) (cpu : Cpu) → delivers c ≡ None
      → c.kernel.clock ≤ moment → (moment ≡ c.kernel.clock → cpu ≡ c.cpu)
      → IfSome (next_look c) (λ look. moment < look)
      → delivers (at_moment c moment cpu) ≡ None
