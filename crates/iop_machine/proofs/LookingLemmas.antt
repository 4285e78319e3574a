-- The script's events that are due, once they were taken.
use Rattle.std.proofs.Common.{◌≡◌, Bool, ℕ, Some, None, List, refl, ap, sym, ◌∙◌, subst}
use Rattle.std.specs.Prelude.{is_some, option_map}
use Rattle.iop_intr.specs.declared.irq_line.IrqLine.{IrqLine}
use Rattle.iop_kernel.specs.Deliveries.{delivers}
use Rattle.iop_kernel.specs.Dispatching.{Dispatched, dispatches}
use Rattle.iop_kernel.specs.System.{Kernel, with_irqs, is_active}
use Rattle.iop_kernel.specs.Standing as kernel
use Rattle.iop_kernel.specs.declared.kernel.Kernel.{Kernel as Kernels}
use Rattle.iop_ready.specs.KernelReady.{KernelReady, KernelStands}
use Rattle.iop_script.specs.declared.raise.Raise.{Raise}
use Rattle.iop_machine.specs.Events.{due_events, left_events, TakesDue}
use Rattle.iop_machine.specs.Iop.{Iop, core_of, with_core}
use Rattle.iop_machine.specs.Looking.{after_events, takes_event, takes_events}
use Rattle.iop_machine.specs.Standing.{Stands}
use Rattle.iop_machine.specs.declared.iop.Iop.{Iop as Program}
use Rattle.iop_machine.proofs.EventLemmas.{AreLater, later_due, later_left, left_later, none_due}
use Rattle.iop_machine.proofs.LinesAside.{dispatched_with, dispatches_with, dispatch_kernel}
use Rattle.iop_machine.proofs.StandingLemmas.{IsMoment, carried}

-- where no event is due nothing is taken
pub takes_none : (s : Iop) → AreLater s.kernel.clock s.events → takes_events s ≡ s
takes_none s later =
    rw (later_due s.kernel.clock s.events later, later_left s.kernel.clock s.events later) refl

module _ (s : Iop) where
  -- the interrupt lines behind it
  abbrev pub taken_irqs : List IrqLine
  taken_irqs = after_events s.kernel.irqs (due_events s.kernel.clock s.events)

  -- the kernel behind it, of which the interrupt lines alone change
  pub taken_kernel : (takes_events s).kernel ≡ record s.kernel { irqs = taken_irqs }
  taken_kernel = refl

  -- it takes no time
  pub taken_clock : (takes_events s).kernel.clock ≡ s.kernel.clock
  taken_clock = refl

  -- and what executes is the same
  pub taken_active : is_active (takes_events s).kernel ≡ is_active s.kernel
  taken_active = refl

  -- all events that are left are later
  pub taken_later : AreLater (takes_events s).kernel.clock (takes_events s).events
  taken_later = left_later s.kernel.clock s.events

  -- so nothing is taken twice
  pub takes_again : takes_events (takes_events s) ≡ takes_events s
  takes_again = takes_none (takes_events s) taken_later

  -- the kernel with its processor behind it
  pub taken_core : core_of (takes_events s) ≡ with_irqs (core_of s) taken_irqs
  taken_core = refl

  -- what is dispatched is the same, with the lines as they are then
  pub dispatches_taken : dispatches (core_of (takes_events s))
      ≡ option_map (dispatched_with taken_irqs) (dispatches (core_of s))
  dispatches_taken = dispatches_with (core_of s) taken_irqs

  -- where a thread was dispatched, the events that are due are those of before
  pub takes_dispatched : (d : Dispatched) → dispatches (core_of s) ≡ Some d
      → takes_events (with_core s d.core)
      ≡ with_core (takes_events s) (dispatched_with taken_irqs d).core
  takes_dispatched d is =
      let kernel = dispatch_kernel (core_of s) d is in
      let left = λ (k : Kernel).
      record (with_core s d.core) { kernel = k; events = left_events s.kernel.clock s.events } in
      ap (λ (k : Kernel). takes_events (with_core s (record d.core { kernel = k }))) kernel
      ∙ ap (λ (k : Kernel). left (record k { irqs = taken_irqs })) (sym kernel)

-- an event that is due was taken: what is to be taken in all is the same
module _ {m : Program} {now : ℕ} (event : Raise) (events : List Raise)
    (clock : m.kernel.clock ≡ now) where
  -- of a state for which it stands
  due_of : TakesDue (Some event) now m.events events → (v : Iop) → Stands m v
      → TakesDue (Some event) v.kernel.clock v.events events
  due_of due v h =
      subst (λ n. TakesDue (Some event) n v.events events) (sym (h.kernel.holds.clock ∙ clock))
      (subst (λ (x : List Raise). TakesDue (Some event) now x events)
      (sym (ap (λ (s : Iop). s.events) h.rest)) due)

  takes_rest : TakesDue (Some event) now m.events events → (v : Iop) → Stands m v
      → takes_events (record v { kernel = takes_event v.kernel event; events = events })
      ≡ takes_events v
  takes_rest due v h =
      let d = due_of due v h in
      ap (λ (all : List Raise). record v {
        kernel = record v.kernel { irqs = after_events v.kernel.irqs all };
        events = left_events v.kernel.clock events;
      }) (sym d.1)
      ∙ ap (λ (left : List Raise). record (takes_events v) { events = left }) (sym d.2)

  module _ (new : Kernels KernelReady)
      (change : (k : Kernel) → kernel.Stands KernelStands m.kernel k
      → kernel.Stands KernelStands new (takes_event k event)) where
    -- the program, in which that was done, stands for a state with as much to be taken
    pub taken_more : TakesDue (Some event) now m.events events → (s : Iop)
        → (v : Iop) × Stands m v × (takes_events v ≡ takes_events s)
        → (v : Iop) × Stands (record m { kernel = new; events = events }) v
        × (takes_events v ≡ takes_events s)
    taken_more due s (v, h, same) = (
      record v { kernel = takes_event v.kernel event; events = events },
      record {
        kernel = change v.kernel h.kernel;
        rest = ap (λ (x : Iop). record x {
          kernel = takes_event v.kernel event;
          events = events;
        }) h.rest;
      },
      takes_rest due v h ∙ same,
    )

    -- it takes no time
    pub changed_clock : (v : Iop) → Stands m v → new.clock ≡ now
    changed_clock v h =
        sym (change v.kernel h.kernel).holds.clock ∙ h.kernel.holds.clock ∙ clock

-- where none is due any more, all were taken
pub taken_all : {m : Program} {now : ℕ} {events : List Raise} → m.kernel.clock ≡ now
    → TakesDue None now m.events events → (s : Iop)
    → (v : Iop) × Stands m v × (takes_events v ≡ takes_events s)
    → Stands (record m { events = events }) (takes_events s)
taken_all {m} {now} {events} clock due s (v, h, same) =
    let later : AreLater v.kernel.clock v.events =
    subst (λ n. AreLater n v.events) (sym (h.kernel.holds.clock ∙ clock))
    (subst (AreLater now) (sym (ap (λ (x : Iop). x.events) h.rest))
    (none_due now m.events due.1)) in
    subst (λ (x : List Raise). Stands (record m { events = x }) (takes_events s)) (sym due.0)
    (subst (Stands m) (sym (takes_none v later) ∙ same) h)

-- whether something is delivered once the events that are due were taken
abbrev pub delivers_later : Iop → Bool
delivers_later s = is_some (delivers (core_of (takes_events s)))

-- it is so where it is so with the interrupt lines that these events leave
pub delivers_behind : (m : Program) (now : ℕ) (due : List Raise) (b : Bool) → IsMoment m now
    → due ≡ due_events now m.events
    → ((k : Kernel) → kernel.Stands KernelStands m.kernel k
    → b ≡ is_some (delivers (with_irqs (kernel.core k m.cpu) (after_events k.irqs due))))
    → (s : Iop) → Stands m s → b ≡ delivers_later s
delivers_behind m now due b moment is would =
    carried m (λ s. b ≡ delivers_later s) (λ k h.
    would k h
    ∙ ap (λ (all : List Raise).
    is_some (delivers (with_irqs (kernel.core k m.cpu) (after_events k.irqs all))))
    (is ∙ ap (λ n. due_events n m.events) (moment k h)))
