-- What each turn leaves of the kernel and its processor.
use Rattle.std.proofs.Common.{◌≡◌, ℕ, ◌+◌, ◌<◌, ◌^◌, nat_lt, Bool, true, false, cond, Option, Some, None, List, [], ◌∷◌, length, refl, sym, ◌∙◌, subst, arith, inl, inr}
use Rattle.std.proofs.lemmas.Bool.{cond_both}
use Rattle.std.proofs.lemmas.List.{length-set}
use Rattle.iop_base.specs.Places.{IsRamSize}
use Rattle.iop_exec.specs.declared.cpu.Cpu.{Cpu}
use Rattle.iop_exec.specs.Laws.{cpu_after}
use Rattle.iop_exec.specs.Row.{Row, Goes, Serves, Faults, behind_syscall, row}
use Rattle.iop_intr.specs.declared.irq_line.IrqLine.{IrqLine}
use Rattle.iop_kernel.proofs.Keeping.Steps.{core_steps}
use Rattle.iop_kernel.proofs.Walk.Steps.{none_dispatched, none_of_threads}
use Rattle.iop_kernel.specs.Deliveries.{Delivered, delivers}
use Rattle.iop_kernel.specs.DeliveryLaws.{at_moment}
use Rattle.iop_kernel.specs.Dispatching.{Dispatched, dispatches}
use Rattle.iop_kernel.specs.Laws.{IsCore}
use Rattle.iop_kernel.specs.Serving.{services}
use Rattle.iop_kernel.specs.System.{Core, Served}
use Rattle.iop_kernel.specs.declared.after.After.{After}
use Rattle.iop_kernel.specs.declared.after.After.TheVariants.{Resume, Switch, ModuleReturned, Fault}
use Rattle.iop_machine.specs.Iop.{Iop, core_of}
use Rattle.iop_machine.specs.Laws.{IsSoundWorld}
use Rattle.iop_machine.specs.Looking.{after_event, after_events, takes_events, next_coming}
use Rattle.iop_machine.specs.Events.{due_events}
use Rattle.iop_machine.specs.Services.{calls, calls_by, calling, serves, returns_by}
use Rattle.iop_machine.specs.Stepping.{Turn, takes_turn, performs, waits_by}
use Rattle.iop_machine.specs.World.{World}
use Rattle.iop_resumable.specs.Laws.{IsServing}
use Rattle.iop_resumable.proofs.Lines.{lines_stay}
use Rattle.iop_resumable.proofs.Regular.{services_stay_regular}
use Rattle.iop_resumable.proofs.Steps.{steps_stay_regular}
use Rattle.iop_saved_kernel.specs.Laws.{IsReadable}
use Rattle.iop_script.specs.declared.raise.Raise.{Raise}
use Rattle.iop_thread.specs.Operations as threads
use Rattle.iop_thread.specs.ThreadTable.{ThreadTable, running_thread, best_ready}
use Rattle.iop_thread.specs.declared.thread.Thread.{Thread}
use Rattle.iop_resumable_runs.specs.Resumable.{IsResumableCore}
use Rattle.iop_machine.proofs.Stepping.{IsTurn, stopped, unbooted, delivery, dispatch, execution, waiting}
use Rattle.iop_resumable_runs.proofs.Still.{Still, resumable, ended_still, returns_still, boots_still}

-- ---- what is dispatched

-- the processor, the moment and the lines change nothing of whether something is
none_by : (t : ThreadTable) (old new : Cpu) (running best : Option Thread)
    → threads.dispatches_by t old running best ≡ None
    → threads.dispatches_by t new running best ≡ None
none_by t old new running None none = refl
none_by t old new None (Some best) none = absurd (cc none)
none_by t old new (Some r) (Some best) none = by (nat_lt best.priority r.priority) _ _ none
  where
    by : (b : Bool) (x y : threads.Dispatch) → cond b (Some x) None ≡ None
        → cond b (Some y) None ≡ None
    by true x y none = absurd (cc none)
    by false x y none = refl

none_elsewhere : (c : Core) (moment : ℕ) (irqs : List IrqLine) (cpu : Cpu) → dispatches c ≡ None
    → dispatches (record {
      kernel = record c.kernel { clock = moment; irqs = irqs };
      cpu = cpu;
    }) ≡ None
none_elsewhere c moment irqs cpu none =
    let t = c.kernel.threads in
    none_dispatched _
    (λ may. none_by t c.cpu cpu (running_thread t) (best_ready t) (none_of_threads c none may))

-- where something is, the processor stands in no delay slot
outside_slot : (c : Core) (d : Dispatched) → IsResumableCore c → dispatches c ≡ Some d
    → c.cpu.in_slot ≡ false
outside_slot c d h is = by c.cpu.in_slot refl
  where
    by : (b : Bool) → c.cpu.in_slot ≡ b → c.cpu.in_slot ≡ false
    by false outside = outside
    by true inside = absurd (cc (h.slot inside, is))

-- ---- the script's events that are due

-- there are as many lines
line_changed : (irqs : List IrqLine) (event : Raise) → length (after_event irqs event) ≡ length irqs
line_changed irqs event =
    cond_both event.up _ _ (λ (l : List IrqLine). length l ≡ length irqs)
    (λ up. length-set irqs event.line _) (λ down. length-set irqs event.line _)

lines_changed : (irqs : List IrqLine) (events : List Raise)
    → length (after_events irqs events) ≡ length irqs
lines_changed irqs [] = refl
lines_changed irqs (event ∷ events) =
    lines_changed (after_event irqs event) events ∙ line_changed irqs event

-- what holds of the kernel holds behind them
events_core : (s : Iop) → IsResumableCore (core_of s)
    → IsResumableCore (core_of (takes_events s))
events_core s h =
    let due = due_events s.kernel.clock s.events in
    let irqs = after_events s.kernel.irqs due in
    record {
      regular = steps_stay_regular.raises (core_of s) irqs h.regular;
      cpu = h.cpu;
      slot = λ inside. none_elsewhere (core_of s) s.kernel.clock irqs s.cpu (h.slot inside);
      lines = lines_changed s.kernel.irqs due ∙ h.lines;
    }

events_sound : (s : Iop) → IsCore (core_of s) → IsCore (core_of (takes_events s))
events_sound s h = (core_steps h).raises _

-- ---- each turn

-- memory is small
small_ram : (size : ℕ) → IsRamSize size → size < 2 ^ 32
small_ram size (inl is) = omega (arith, is)
small_ram size (inr is) = omega (arith, is)

-- by what becomes of the caller
calls_core : (s : Iop) (d : Served) → IsResumableCore (core_of s) → Still d.left.state.core
    → (after : After) → IsResumableCore (core_of (calls_by s d after).state)
calls_core s d h served Resume = resumable _ (ended_still (serves s d).state served)
calls_core s d h served Switch = resumable _ (ended_still (serves s d).state served)
calls_core s d h served (ModuleReturned value) =
    let now = (serves s d).state in
    resumable _
    (ended_still (returns_by now now.begun value).state (returns_still now now.begun value served))
calls_core s d h served (Fault kind) = h

module _ (s : Iop) (h : IsResumableCore (core_of s)) where
  -- an instruction goes on, where nothing is dispatched
  goes_core : dispatches (core_of s) ≡ None → (cpu : Cpu) → IsReadable cpu → (moment : ℕ)
      → IsResumableCore (at_moment (core_of s) moment cpu)
  goes_core none cpu readable moment = record {
    regular = steps_stay_regular.moves_on (core_of s) moment cpu h.regular;
    cpu = readable;
    slot = λ inside. none_elsewhere (core_of s) moment s.kernel.irqs cpu none;
    lines = h.lines;
  }

  -- the clock goes on
  waits_core : dispatches (core_of s) ≡ None → (o : Option ℕ)
      → IsResumableCore (core_of (waits_by s o).state)
  waits_core none None = h
  waits_core none (Some moment) = goes_core none s.cpu h.cpu moment

  -- what serves a call
  serving_core : (code : ℕ) → IsServing (calling s) → IsReadable (behind_syscall s.cpu)
      → Still (services (calling s) code).left.state.core
  serving_core code serving readable = (
    services_stay_regular (calling s) code serving (record {
      regular = steps_stay_regular.moves_on (core_of s) s.kernel.clock (behind_syscall s.cpu)
          h.regular;
      cpu = record { readable = readable; outside = refl };
    }),
    lines_stay.services (calling s) code ∙ h.lines,
  )

  -- an instruction of what executes
  performs_core : dispatches (core_of s) ≡ None → IsServing (calling s) → (r : Row)
      → IsReadable (cpu_after s.cpu r) → IsResumableCore (core_of (performs s r).state)
  unfolding calls
  performs_core none serving (Goes after None) readable =
      goes_core none after readable (s.kernel.clock + 1)
  performs_core none serving (Goes after (Some storing)) readable =
      goes_core none after readable (s.kernel.clock + 1)
  performs_core none serving (Serves code) readable =
      let d = services (calling s) code in
      calls_core s d h (serving_core code serving readable) d.left.after
  performs_core none serving (Faults kind) readable = h

-- a turn takes the events that are due first of all
module _ (w : World) (sound : IsSoundWorld w) where
  core : IsCore (core_of (takes_events w.iop))
  core = events_sound w.iop sound.core

  pub serving : IsServing (calling (takes_events w.iop))
  serving = record {
    placed = core.placed;
    blocks = sound.whole.are_blocks;
    size = subst (λ size. size < 2 ^ 32) (sym sound.whole.same_size)
        (small_ram _ sound.whole.sound.sized);
  }

module _ (w : World) (sound : IsSoundWorld w) (h : IsResumableCore (core_of w.iop))
    (reads : (memory : List ℕ) (cpu : Cpu) → IsReadable cpu
    → IsReadable (cpu_after cpu (row memory cpu))) where
  abbrev v : Iop
  v = takes_events w.iop

  taken : IsResumableCore (core_of v)
  taken = events_core w.iop h

  delivered_core : (d : Delivered) → delivers (core_of v) ≡ Some d → IsResumableCore d.core
  delivered_core d is =
      resumable d.core (
        steps_stay_regular.delivers (core_of v) d (record {
          regular = taken.regular;
          cpu = taken.cpu;
          bare = record { processor = sound.bare.processor; kept = sound.bare.kept };
          timers = (core w sound).placed.delays.kept;
          lines = taken.lines;
        }) is,
        lines_stay.delivers (core_of v) d is ∙ taken.lines,
      )

  dispatched_core : (d : Dispatched) → dispatches (core_of v) ≡ Some d → IsResumableCore d.core
  dispatched_core d is =
      resumable d.core (
        steps_stay_regular.dispatches (core_of v) d (record {
          regular = taken.regular;
          cpu = record {
            readable = taken.cpu;
            outside = outside_slot (core_of v) d taken is;
          };
        }) is,
        lines_stay.dispatches (core_of v) d is ∙ taken.lines,
      )

  pub turn_core : {t : Turn} → IsTurn w t → IsResumableCore (core_of (takes_turn w t).state.iop)
  turn_core (stopped stop over) = h
  turn_core (unbooted over new) = resumable _ (boots_still w.iop h.regular h.lines)
  turn_core (delivery d goes is) = delivered_core d is
  turn_core (dispatch d goes none is) = dispatched_core d is
  turn_core (execution goes looks) =
      performs_core v taken looks.dispatch_is (serving w sound) (row v.memory.ram v.cpu)
      (reads v.memory.ram v.cpu taken.cpu)
  turn_core (waiting goes looks) = waits_core v taken looks.dispatch_is (next_coming v)
