-- What holds of the kernel and its processor after each delivery, each dispatch and what else the
-- machine does beside its services, if it lasts over each of these. A premise is what is known
-- where one is made.
use Rattle.std.proofs.Common.{◌≡◌, ℕ, Bool, true, false, if◌then◌else◌, Option, Some, None, List, option_map, refl, ap, subst}
use Rattle.std.proofs.lemmas.Option.{same_Some}
use Rattle.iop_base.specs.Piece.{Piece, Traced}
use Rattle.iop_base.specs.Text.{line_bytes}
use Rattle.iop_base.specs.declared.code.TheConstants.Code.{OK}
use Rattle.iop_base.specs.declared.line.Line.{Line}
use Rattle.iop_base.specs.declared.line.Line.TheVariants as lines
use Rattle.iop_exec.specs.declared.cpu.Cpu.{Cpu}
use Rattle.iop_intr.specs.InterruptLines.{line_of, deliverable, delivering}
use Rattle.iop_intr.specs.declared.handler.Handler.{Handler}
use Rattle.iop_intr.specs.declared.irq_line.IrqLine.{IrqLine}
use Rattle.iop_thread.specs.Operations as threads
use Rattle.iop_time.specs.Taking.{without_due, takes_due}
use Rattle.iop_time.specs.Timers.{drops_delay}
use Rattle.iop_time.specs.declared.alarm.Alarm.{Alarm}
use Rattle.iop_time.specs.declared.delay.Delay.{Delay}
use Rattle.iop_time.specs.declared.due.Due.{Due}
use Rattle.iop_time.specs.declared.due.Due.TheVariants as due
use Rattle.iop_kernel.specs.Deliveries.{Delivered, may_deliver, delivers_line, delivers_due, delivers_by, delivers}
use Rattle.iop_kernel.specs.DeliveryLaws.{at_moment}
use Rattle.iop_kernel.specs.Dispatching.{Dispatched, dispatched, dispatches}
use Rattle.iop_kernel.specs.Handlers.{alarm_handler, begins_handler}
use Rattle.iop_kernel.specs.System.{Kernel, Core, may_switch, may_dispatch, with_threads, with_timers, with_irqs}
use Rattle.iop_kernel.specs.Waits.{wakes_with}
use Rattle.iop_kernel.specs.declared.active_handler.Cause.TheVariants as causes

-- P holds of what is left, and of the line that is given
module _ (P : Core → Piece → Type 0) (c : Core) where
  abbrev k : Kernel
  k = c.kernel

  abbrev Gives : Core → Line → Type 0
  Gives left line = P left (Traced (line_bytes k.clock line))

  -- an alarm or a delay is delivered
  pub record DueComes : Type 0 where
    pub begins_alarm : (alarm : Alarm) → (takes_due k.timers k.clock).0 ≡ Some (due.Alarm alarm)
        → Gives (begins_handler c (causes.Alarm alarm.number) (alarm_handler alarm))
        (lines.Alarm alarm.number)
    pub wakes : (delay : Delay) → (takes_due k.timers k.clock).0 ≡ Some (due.Delay delay)
        → Gives (wakes_with (with_timers c (drops_delay k.timers delay.thread)) delay.thread OK)
        (lines.Due delay.thread)

  -- or a line is
  pub record Deliveries : Type 0 where
    pub begins_line : (line : ℕ) (handler : Handler) → deliverable k.irqs ≡ Some line
        → (line_of k.irqs line).handler ≡ Some handler
        → Gives (begins_handler (with_irqs c (delivering k.irqs line)) (causes.Line line) handler)
        (lines.Irq line)
    pub due : deliverable k.irqs ≡ None → DueComes

  -- a thread is dispatched
  abbrev pub Dispatches : Type 0
  Dispatches =
      (d : threads.Dispatch) → threads.dispatches k.threads c.cpu ≡ Some d
      → P (dispatched k d).core (dispatched k d).line

  -- it holds of what is delivered
  abbrev Comes : Delivered → Type 0
  Comes d = P d.core d.line

  -- the handler of a line begins, if it has one
  line_goes : Deliveries → (line : ℕ) → deliverable k.irqs ≡ Some line → (o : Option Handler)
      → (line_of k.irqs line).handler ≡ o → (d : Delivered) → delivers_line c line o ≡ Some d
      → Comes d
  line_goes h line found None has d made = cc
  line_goes h line found (Some handler) has d made =
      subst Comes (same_Some _ d made) (h.begins_line line handler found has)

  -- what is taken comes, if something is
  taken_goes : DueComes → (taken : Option Due) → (takes_due k.timers k.clock).0 ≡ taken
      → (d : Delivered) → delivers_due c (taken, without_due k.timers taken) ≡ Some d → Comes d
  taken_goes h None is d made = cc
  taken_goes h (Some (due.Alarm alarm)) is d made =
      subst Comes (same_Some _ d made) (h.begins_alarm alarm is)
  taken_goes h (Some (due.Delay delay)) is d made =
      subst Comes (same_Some _ d made) (h.wakes delay is)

  pub due_goes : DueComes → (d : Delivered)
      → delivers_due c (takes_due k.timers k.clock) ≡ Some d → Comes d
  due_goes h d made = taken_goes h _ refl d made

  -- by the line that comes first, if one does
  first_goes : Deliveries → (o : Option ℕ) → deliverable k.irqs ≡ o → (d : Delivered)
      → delivers_by c o ≡ Some d → Comes d
  first_goes h (Some line) found d made =
      line_goes h line found (line_of k.irqs line).handler refl d made
  first_goes h None none d made = due_goes (h.due none) d made

  -- where something may be delivered
  delivers_if : (may : Bool) → may_deliver c ≡ may → (may_deliver c ≡ true → Deliveries)
      → (d : Delivered) → (if may then delivers_by c (deliverable k.irqs) else None) ≡ Some d
      → Comes d
  delivers_if true is h d made = first_goes (h is) (deliverable k.irqs) refl d made
  delivers_if false is h d made = cc

  -- whatever is delivered
  pub delivers_goes : (may_deliver c ≡ true → Deliveries) → (d : Delivered)
      → delivers c ≡ Some d → Comes d
  unfolding delivers
  delivers_goes h d made = delivers_if (may_deliver c) refl h d made

  -- a thread is, if the threads dispatch one
  dispatched_goes : Dispatches → (o : Option threads.Dispatch)
      → threads.dispatches k.threads c.cpu ≡ o → (d : Dispatched)
      → option_map (dispatched k) o ≡ Some d → P d.core d.line
  dispatched_goes h None is d made = cc
  dispatched_goes h (Some did) is d made =
      subst (λ (d : Dispatched). P d.core d.line) (same_Some _ d made) (h did is)

  -- where another thread may run
  dispatches_if : (may : Bool) → may_dispatch k ≡ may → (may_dispatch k ≡ true → Dispatches)
      → (d : Dispatched)
      → (if may then option_map (dispatched k) (threads.dispatches k.threads c.cpu) else None)
      ≡ Some d → P d.core d.line
  dispatches_if true is h d made = dispatched_goes (h is) _ refl d made
  dispatches_if false is h d made = cc

  -- whatever is dispatched
  pub dispatches_goes : (may_dispatch k ≡ true → Dispatches) → (d : Dispatched)
      → dispatches c ≡ Some d → P d.core d.line
  unfolding dispatches
  dispatches_goes h d made = dispatches_if (may_dispatch k) refl h d made

-- where the threads have none to dispatch, there is none
module _ (c : Core) where
  abbrev of_threads : Option threads.Dispatch
  of_threads = threads.dispatches c.kernel.threads c.cpu

  none_if : (may : Bool) → (may ≡ true → of_threads ≡ None)
      → (if may then option_map (dispatched c.kernel) of_threads else None) ≡ None
  none_if true none = ap (option_map (dispatched c.kernel)) (none refl)
  none_if false none = refl

  pub none_dispatched : (may_dispatch c.kernel ≡ true → of_threads ≡ None) → dispatches c ≡ None
  unfolding dispatches
  none_dispatched none = none_if (may_dispatch c.kernel) none

  -- and where there is none, they have none, or no other may run
  none_by : (may : Bool) (o : Option threads.Dispatch)
      → (if may then option_map (dispatched c.kernel) o else None) ≡ None → may ≡ true → o ≡ None
  none_by true None none is = refl
  none_by true (Some d) none is = absurd (cc none)
  none_by false o none is = absurd (cc is)

  pub none_of_threads : dispatches c ≡ None → may_dispatch c.kernel ≡ true → of_threads ≡ None
  unfolding dispatches
  none_of_threads none is = none_by (may_dispatch c.kernel) of_threads none is

-- P lasts over all that the machine does beside its services, where registers may be those that it
-- is given
module _ (P : Core → Type 0) (MayHave : Cpu → Type 0) (c : Core) where
  abbrev Left : Core → Piece → Type 0
  Left d line = P d

  pub record Steps : Type 0 where
    pub delivers : Deliveries Left c
    pub dispatches : Dispatches Left c
    -- the loader's thread begins, and ends where another may run
    pub begins : (registers : Cpu) → MayHave registers
        → P (with_threads c (threads.begins c.kernel.threads registers))
    pub ends_running : may_switch c.kernel ≡ true
        → P (with_threads c (threads.ends_running c.kernel.threads))
    -- it is another moment, the processor is another, or interrupt lines are raised
    pub moves_on : (moment : ℕ) (cpu : Cpu) → MayHave cpu → P (at_moment c moment cpu)
    pub raises : (irqs : List IrqLine) → P (with_irqs c irqs)
