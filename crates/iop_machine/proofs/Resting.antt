-- Each step that executes no instruction leaves fewer such steps.
use Rattle.std.proofs.Common.{◌≡◌, ℕ, ◌+◌, ◌*◌, ◌<◌, ◌≤◌, Bool, true, false, Option, Some, None, length, refl, ap, sym, ◌∙◌, arith, subst, inl, inr}
use Rattle.std.proofs.Math.Bool.{or-true}
use Rattle.std.proofs.lemmas.Bool.Decides.{nat_tests}
use Rattle.std.specs.Prelude.{IfSome, is_some, option_map}
use Rattle.iop_base.specs.Numbers.{one_if}
use Rattle.iop_base.specs.declared.stop.Stop.TheVariants.{Quiet}
use Rattle.iop_exec.specs.Row.{row}
use Rattle.iop_kernel.specs.Deliveries.{Delivered, delivers, may_deliver}
use Rattle.iop_kernel.specs.Dispatching.{Dispatched, dispatches}
use Rattle.iop_kernel.specs.Laws.{IsCore}
use Rattle.iop_kernel.specs.System.{Kernel, Core, is_active}
use Rattle.iop_kernel_laws.proofs.Order.First.{deliveries_are_in_order}
use Rattle.iop_kernel_laws.proofs.Keeping.Settled.{settled_later}
use Rattle.iop_kernel.proofs.Order.Strict.{dispatches_are_strict}
use Rattle.iop_time.specs.Laws.{NoneHasCome}
use Rattle.iop_machine.specs.Iop.{Iop, core_of, with_core}
use Rattle.iop_machine.specs.Laws.{IsMachine}
use Rattle.iop_machine.specs.Loading.{boots}
use Rattle.iop_machine.specs.Looking.{takes_events, next_coming, at_moment}
use Rattle.iop_machine.specs.Stepping.{Turn, takes_turn, is_execution, step, executes, performs, waits_by, most_between}
use Rattle.iop_machine.specs.World.{World, booted}
use Rattle.iop_machine.proofs.CallsLeft.{left_of, delivery_leaves_fewer}
use Rattle.iop_machine.proofs.Coming.{coming_of, idle_may}
use Rattle.iop_machine.proofs.EventLemmas.{AreLater, left_few, left_fewer}
use Rattle.iop_machine.proofs.LoadingLands.{performs_events, boots_leave}
use Rattle.iop_machine.proofs.KeepingMachine.{keeps_machine}
use Rattle.iop_machine.proofs.LookingLemmas.{taken_irqs, taken_kernel, taken_active, taken_later, taken_core, dispatches_taken}
use Rattle.iop_machine.proofs.Moving.{takes_core}
use Rattle.iop_machine.proofs.LinesAside.{dispatched_with}
use Rattle.iop_machine.proofs.Rests.{turns_by, turns_delivered, turns_dispatched, turns_are, behind, behind_is, rest, rest_is, rest_over, rest_booted, rest_later, rest_bounded, HasFewDelays, few_delays, taken_deliveries}
use Rattle.iop_machine.proofs.Stepping.{IsTurn, stopped, unbooted, delivery, dispatch, execution, waiting, turn_is}

module _ (v : Iop) (core : IsCore (core_of v)) (later : AreLater v.kernel.clock v.events) where
  -- after a delivery fewer are left
  rest_delivered : (d : Delivered) → delivers (core_of v) ≡ Some d
      → rest (booted (with_core v d.core)) + 1 ≤ behind v
  rest_delivered d is =
      let t = with_core v d.core in
      let keeps = deliveries_are_in_order.delivered (core_of v) d core is in
      let h = delivery_leaves_fewer (core_of v) d is in
      let fewer : left_of t.kernel < left_of v.kernel = h.fewer in
      let left = rest_later t (subst (λ n. AreLater n v.events) (sym h.clock) later) in
      let new = behind_is t in
      let old = behind_is v in
      let turning = turns_delivered (is_active v.kernel) (is_some (dispatches (core_of v)))
      (is_active t.kernel) (is_some (delivers d.core)) (is_some (dispatches d.core))
      (λ idle. rw (keeps.allowed.handler, ← keeps.running) (grind (arith, nat_tests, idle))) in
      let before = turns_are v (is_active v.kernel) true (is_some (dispatches (core_of v))) refl
      (ap is_some is) refl in
      omega (arith, fewer, left, new, old, turning, before)

  -- and after a dispatch
  rest_dispatched : (d : Dispatched) → dispatches (core_of v) ≡ Some d
      → rest (booted (with_core v d.core)) + 1 ≤ behind v
  rest_dispatched d is =
      let t = with_core v d.core in
      let keeps = dispatches_are_strict.dispatched (core_of v) d core is in
      let same : left_of t.kernel ≡ left_of v.kernel =
      ap (λ (x : Core). left_of x.kernel) keeps.switch.left in
      let runs : d.core.kernel.threads.running ≡ Some keeps.switch.is.thread.id =
      ap (λ (x : Core). x.kernel.threads.running) keeps.switch.left ∙ keeps.switch.is.runs in
      let left = rest_later t (subst (λ n. AreLater n v.events) (sym keeps.clock) later) in
      let new = behind_is t in
      let old = behind_is v in
      let turning = turns_dispatched (is_active v.kernel) (is_some (delivers (core_of v)))
      (is_active t.kernel) (is_some (dispatches d.core))
      (rw runs (or-true (is_some t.kernel.handler)))
      (ap is_some keeps.switch.settled) (is_some (delivers d.core)) in
      let before = turns_are v (is_active v.kernel) (is_some (delivers (core_of v))) true refl refl
      (ap is_some is) in
      omega (arith, same, left, new, old, turning, before)

  module _ (none : delivers (core_of v) ≡ None) (settled : dispatches (core_of v) ≡ None) where
    module _ (idle : is_active v.kernel ≡ false) where
      module _ (moment : ℕ) (coming : next_coming v ≡ Some moment) where
        -- the clock goes on to a moment, and the events that are due then are taken
        abbrev then : Iop
        then = takes_events (at_moment v moment)

        -- where nothing is delivered then, an event is
        event_comes : delivers (core_of then) ≡ None → AreLater moment v.events → ⊥
        event_comes nothing events =
            let may : may_deliver (core_of then) ≡ true =
            ap may_deliver (taken_core (at_moment v moment)) ∙ idle_may (core_of v) core idle in
            let not_yet = subst (λ (k : Kernel). NoneHasCome k.timers k.clock)
            (taken_kernel (at_moment v moment))
            (deliveries_are_in_order.no_moment (core_of then) nothing may) in
            let later = coming_of (λ m. moment < m) v moment events not_yet
            (λ m late comes. late) in
            let never = subst (λ o. IfSome o (λ m. moment < m)) coming later in
            omega (arith, never)

        -- what rests then, by whether something is delivered
        rest_by_events : (delivering : Bool) → is_some (delivers (core_of then)) ≡ delivering
            → rest (booted (at_moment v moment)) + length v.events + 2
            ≤ behind v + length then.events + turns_by false delivering false
        rest_by_events delivering is =
            let t = at_moment v moment in
            let left = rest_booted t in
            let new = behind_is then in
            let old = behind_is v in
            let same : left_of then.kernel ≡ left_of v.kernel = taken_deliveries t in
            let before = turns_are v false false false idle (ap is_some none)
            (ap is_some settled) in
            let still = dispatches_taken t
            ∙ ap (option_map (dispatched_with (taken_irqs t)))
            (settled_later (core_of v) moment v.cpu settled) in
            let turning = turns_are then false delivering false (taken_active t ∙ idle) is
            (ap is_some still) in
            omega (arith, left, new, old, same, before, turning)

        -- where nothing is, an event is taken
        rest_then : (o : Option Delivered) → delivers (core_of then) ≡ o
            → rest (booted (at_moment v moment)) + 1 ≤ behind v
        rest_then (Some d) is =
            let h = rest_by_events true (ap is_some is) in
            let few = left_few moment v.events in
            omega (arith, h, few)
        rest_then None is =
            let h = rest_by_events false (ap is_some is) in
            elim (left_fewer moment v.events) [
              | inl later ↦ absurd (event_comes is later)
              | inr fewer ↦ omega (arith, h, fewer)
            ]

      -- by what comes next
      rest_waits : (o : Option ℕ) → next_coming v ≡ o
          → rest (booted (waits_by v o).state) + 1 ≤ behind v
      rest_waits None is =
          let over = rest_over (booted (record v { over = Some Quiet })) Quiet refl in
          let old = behind_is v in
          omega (arith, over, old)
      rest_waits (Some moment) is =
          rest_then moment is (delivers (core_of (takes_events (at_moment v moment)))) refl

-- a turn that executes no instruction leaves fewer such steps, and one that executes an
-- instruction at most `most_between` more; the delays that it leaves are few
turn_rests : (w : World) {t : Turn} → IsMachine w → w.iop.over ≡ None
    → HasFewDelays (takes_turn w t).state.iop → IsTurn w t
    → rest (takes_turn w t).state + 1
    ≤ rest w + (most_between + 1) * one_if (is_execution t)
turn_rests w machine over few (stopped stop stops) = absurd (cc (over, stops))
turn_rests w machine over few (unbooted _ new) =
    let left = rest_bounded (boots w.iop).state few in
    let events = ap length (boots_leave w.iop).events in
    let before = rest_is w true over new in
    omega (arith, left, events, before)
turn_rests w machine over few (delivery d goes is) =
    let v = takes_events w.iop in
    let less = rest_delivered v (takes_core w.iop machine.sound.core) (taken_later w.iop) d is in
    let before = rest_is w false over goes.booted in
    omega (arith, less, before)
turn_rests w machine over few (dispatch d goes none is) =
    let v = takes_events w.iop in
    let less = rest_dispatched v (takes_core w.iop machine.sound.core) (taken_later w.iop) d is in
    let before = rest_is w false over goes.booted in
    omega (arith, less, before)
turn_rests w machine over few (execution goes looks) =
    let v = takes_events w.iop in
    let r = row v.memory.ram v.cpu in
    let left = rest_bounded (performs v r).state few in
    let same = ap length (performs_events v r) in
    let old = behind_is v in
    let before = rest_is w false over goes.booted in
    omega (arith, left, same, old, before)
turn_rests w machine over few (waiting goes looks) =
    let v = takes_events w.iop in
    let less = rest_waits v (takes_core w.iop machine.sound.core) (taken_later w.iop)
    looks.delivery_is looks.dispatch_is looks.active_is (next_coming v) refl in
    let before = rest_is w false over goes.booted in
    omega (arith, less, before)

-- and so does a step
pub rest_step : (w : World) → IsMachine w → w.iop.over ≡ None
    → rest (step w).state + 1 ≤ rest w + (most_between + 1) * one_if (executes w)
unfolding step executes
rest_step w machine over =
    turn_rests w machine over (few_delays (step w).state (keeps_machine w machine)) (turn_is w)
