-- What each step of a run shows of its threads, and that alarms, delays and threads are on time.
use Rattle.std.proofs.Common.{◌≡◌, ℕ, zero, suc, Bool, true, false, ◌&&◌, not, Some, None, [], ◌∷◌, refl, ap, sym, ◌∙◌, subst, arith}
use Rattle.std.specs.Prelude.{IfSome, is_some}
use Rattle.std.proofs.lemmas.Bool.Decides.{nat_tests}
use Rattle.iop_base.specs.Piece.{Piece}
use Rattle.iop_base.specs.declared.stop.Stop.{Stop}
use Rattle.iop_kernel.specs.Deliveries.{delivers}
use Rattle.iop_kernel.specs.Dispatching.{dispatches}
use Rattle.iop_kernel.specs.Laws.{IsCore}
use Rattle.iop_kernel.specs.System.{Core, in_handler, is_active, may_dispatch}
use Rattle.iop_kernel_laws.proofs.Order.First.{deliveries_are_in_order}
use Rattle.iop_kernel.proofs.Order.Strict.{dispatches_are_strict}
use Rattle.iop_machine.specs.Iop.{Iop, Transition, core_of, with_core, with_state}
use Rattle.iop_machine.specs.Laws.{IsMachine, StepsTo, IsStrict, RunsAreStrict, RunsAreOnTime, IsAwake, RunsAreAwake}
use Rattle.iop_machine.specs.Looking.{takes_events}
use Rattle.iop_machine.specs.Stepping.{Turn, takes_turn, step, steps, waits_by}
use Rattle.iop_machine.specs.World.{World, booted, beginning}
use Rattle.iop_machine.proofs.Coming.{IsComing, coming_later, idle_by}
use Rattle.iop_machine.proofs.Stepping.{executes_so, Looks, IsTurn, stopped, turn_is, next_delivers, next_dispatches, next_waits}
use Rattle.iop_machine.proofs.KeepingMachine.{begins_as_machine, steps_keep_machine}
use Rattle.iop_machine.proofs.Landing.{runs_stay_sound}
use Rattle.iop_machine.proofs.LookingLemmas.{taken_active}
use Rattle.iop_machine.proofs.Moving.{takes_core}

-- where a step does no more
steps_to : (w : World) (core : Core) (line : Piece)
    → step w ≡ record {
      state = booted (with_core (takes_events w.iop) core);
      pieces = line ∷ [];
      bound = [];
    }
    → StepsTo w core line
steps_to w core line is = record {
  state = ap (λ (t : Transition World). t.state) is;
  pieces = ap (λ (t : Transition World). t.pieces) is;
  bound = ap (λ (t : Transition World). t.bound) is;
}

-- a machine that was booted dispatches strictly
is_strict : (s : Iop) → IsCore (core_of (takes_events s)) → s.over ≡ None → IsStrict (booted s)
is_strict s core over =
    let v = takes_events s in
    record {
      delivery = λ d is. steps_to (booted s) d.core d.line (next_delivers s 0 over d is).step_is;
      switch = λ d none is. (
        (dispatches_are_strict.dispatched (core_of v) d core is).switch,
        steps_to (booted s) d.core d.line (next_dispatches s 0 over d none is).step_is,
      );
      settled = λ e may. dispatches_are_strict.settled (core_of v) core
          (executes_so (booted s) e).looks.dispatch_is may;
    }

-- a turn leaves booted what is not stopped, or was booted
turn_booted : {w : World} {t : Turn} → IsTurn w t
    → ((stop : Stop) → w.iop.over ≡ Some stop → w.is_new ≡ false)
    → (takes_turn w t).state.is_new ≡ false
turn_booted (stopped stop over) was = was stop over
turn_booted _ was = refl

step_booted : (w : World) → ((stop : Stop) → w.iop.over ≡ Some stop → w.is_new ≡ false)
    → (step w).state.is_new ≡ false
unfolding step
step_booted w = turn_booted (turn_is w)

-- behind the first step it is booted
runs_booted : (w : World) (k : ℕ) → w.iop.over ≡ None → (steps (suc k) w).state.is_new ≡ false
unfolding steps
runs_booted w zero over = step_booted w (λ stop is. absurd (cc (over, is)))
runs_booted w (suc k) over = step_booted (steps (suc k) w).state (λ stop is. runs_booted w k over)

run_is_booted : (w : World) (k : ℕ) → w.iop.over ≡ None
    → booted (steps (suc k) w).state.iop ≡ (steps (suc k) w).state
run_is_booted w k over =
    ap (λ b. record { is_new = b; iop = (steps (suc k) w).state.iop }) (sym (runs_booted w k over))

-- in each state that a run reaches and in which it goes on
pub runs_are_strict : RunsAreStrict
runs_are_strict = λ size modules events k sized over.
    let first = beginning size modules events in
    let w = (steps (suc k) first).state in
    subst IsStrict (run_is_booted first k refl)
    (is_strict w.iop
    (takes_core w.iop (runs_stay_sound size modules events (suc k) sized).core) over)

-- where interrupts are on and no handler is active, outside a delay slot one may be delivered
may_deliver_by : (interrupts handler running slot : Bool) → interrupts ≡ true → handler ≡ false
    → slot ≡ false → (interrupts && not handler && not (running && slot)) ≡ true
may_deliver_by interrupts handler running slot e f g = grind (arith, nat_tests)

-- what was to come has come, in each state
pub runs_are_on_time : RunsAreOnTime
runs_are_on_time = λ w e handler interrupts slot.
    let v = takes_events w.iop in
    deliveries_are_in_order.no_moment (core_of v) (executes_so w e).looks.delivery_is
    (may_deliver_by v.kernel.interrupts (in_handler v.kernel) (is_some v.kernel.threads.running)
    v.cpu.in_slot interrupts handler slot)

-- where nothing executes another thread may run
idle_switches : (c : Core) → IsCore c → is_active c.kernel ≡ false → may_dispatch c.kernel ≡ true
idle_switches c core idle =
    let none = idle_by c.kernel.handler c.kernel.threads.running idle in
    let awake = core.awake none.1 in
    rw (awake.interrupts none.0, awake.dispatching, none.0) refl

-- a machine that was booted is awake
is_awake : (s : Iop) → IsMachine (booted s) → s.over ≡ None → IsAwake (booted s) (takes_events s)
is_awake s machine over =
    let v = takes_events s in
    let waits = λ (idle : is_active v.kernel ≡ false) (none : delivers (core_of v) ≡ None)
    (still : dispatches (core_of v) ≡ None).
    let looks : Looks s None None false =
    record { delivery_is = none; dispatch_is = still; active_is = idle } in
    (next_waits s 0 over looks).step_is in
    record {
      switches = idle_switches (core_of v) (takes_core s machine.sound.core);
      later = λ idle none moment is.
          let next = subst (λ o. IfSome o (IsComing s)) is
          (coming_later s machine.sound.core none (sym (taken_active s) ∙ idle)) in
          (next.0, next.1 machine.events);
      goes_on = λ idle none still moment is.
          waits idle none still ∙ ap (λ x. with_state booted (waits_by v x)) is;
      ends = λ idle none still is.
          waits idle none still ∙ ap (λ x. with_state booted (waits_by v x)) is;
    }

-- in each state that a run reaches and in which it goes on
pub runs_are_awake : RunsAreAwake
runs_are_awake = λ size modules events k sized come over.
    let first = beginning size modules events in
    let w = (steps (suc k) first).state in
    let is = run_is_booted first k refl in
    subst (λ (x : World). IsAwake x (takes_events x.iop)) is
    (is_awake w.iop
    (subst IsMachine (sym is)
    (steps_keep_machine first (suc k) (begins_as_machine size modules events sized come))) over)
