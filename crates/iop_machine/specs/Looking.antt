-- What is looked at before an instruction: the script's events that are due, and what comes next
-- where nothing is to be executed. It is this project's own profile.
use Rattle.std.specs.Prelude.{ℕ, ◌+◌, ◌<◌, ◌≤◌, if◌then◌else◌, Option, IfSome, List, fold}
use Rattle.iop_exec.specs.declared.cpu.Cpu.{Cpu}
use Rattle.iop_intr.specs.InterruptLines.{raising, lowering}
use Rattle.iop_intr.specs.declared.irq_line.IrqLine.{IrqLine}
use Rattle.iop_kernel.specs.System.{Kernel}
use Rattle.iop_script.specs.declared.raise.Raise.{Raise}
use Rattle.iop_time.specs.Turns.{next_moment}
use Rattle.iop_machine.specs.Events.{due_events, left_events, earlier, next_tick}
use Rattle.iop_machine.specs.Iop.{Iop}

-- an event raises its line, or lowers it
abbrev pub after_event : List IrqLine → Raise → List IrqLine
after_event irqs event =
    if event.up then raising irqs event.line else lowering irqs event.line

-- the kernel after it
abbrev pub takes_event : Kernel → Raise → Kernel
takes_event k event = record k { irqs = after_event k.irqs event }

-- the interrupt lines after these events, one after the other
abbrev pub after_events : List IrqLine → List Raise → List IrqLine
after_events irqs events = fold after_event irqs events

-- each event that is due is taken, in the script's order, and raises or lowers its line
abbrev pub takes_events : Iop → Iop
takes_events s = record s {
  kernel = record s.kernel {
    irqs = after_events s.kernel.irqs (due_events s.kernel.clock s.events);
  };
  events = left_events s.kernel.clock s.events;
}

-- the least tick of an event, or moment of an alarm or a delay, that is still to come
abbrev pub next_coming : Iop → Option ℕ
next_coming s = earlier (next_tick s.events) (next_moment s.kernel.timers)

-- the clock goes on to a moment
abbrev pub at_moment : Iop → (moment : ℕ) → Iop
at_moment s moment = record s { kernel = record s.kernel { clock = moment } }

-- the same, with another processor
abbrev pub moved : Iop → Cpu → (moment : ℕ) → Iop
moved s cpu moment = record (at_moment s moment) { cpu = cpu }

-- so many ticks, one at least and at most so many, end at a moment at the latest, if it is later
-- than now
pub record IsAhead (now : ℕ) (moment : Option ℕ) (most ticks : ℕ) : Type 0 where
  pub some : 0 < ticks
  pub within : ticks ≤ most
  pub ends : IfSome moment (λ m. now < m → now + ticks ≤ m)
