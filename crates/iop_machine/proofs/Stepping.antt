-- What the next step is, by the machine's state.
use Rattle.std.proofs.Common.{◌≡◌, ℕ, zero, suc, ◌<◌, Bool, true, false, Option, Some, None, refl, ap, sym, ◌∙◌, subst, arith}
use Rattle.iop_base.specs.declared.stop.Stop.{Stop}
use Rattle.iop_base.specs.declared.stop.Stop.TheVariants.{Budget}
use Rattle.iop_exec.specs.Row.{row}
use Rattle.iop_kernel.specs.Deliveries.{Delivered, delivers}
use Rattle.iop_kernel.specs.Dispatching.{Dispatched, dispatches}
use Rattle.iop_kernel.specs.System.{is_active}
use Rattle.iop_machine.specs.Iop.{Iop, Transition, silent, with_state, core_of}
use Rattle.iop_machine.specs.Looking.{takes_events, next_coming}
use Rattle.iop_machine.specs.Running.{Runs}
use Rattle.iop_machine.specs.Stepping.{performs, Turn, Stays, Boots, Delivers, Dispatches, Executes, Waits, turn_by, turn_of, takes_turn, is_execution, step, executes, stops_by, stop_at}
use Rattle.iop_machine.specs.World.{World, booted}
use Rattle.iop_machine.proofs.LookingLemmas.{takes_none}

-- what is to be done before an instruction, and whether a thread or a handler executes then
pub record Looks (s : Iop) (delivery : Option Delivered) (dispatch : Option Dispatched)
    (active : Bool) : Type 0 where
  pub delivery_is : delivers (core_of (takes_events s)) ≡ delivery
  pub dispatch_is : dispatches (core_of (takes_events s)) ≡ dispatch
  pub active_is : is_active (takes_events s).kernel ≡ active

-- it was booted, and is not stopped
pub record GoesOn (w : World) : Type 0 where
  pub over : w.iop.over ≡ None
  pub booted : w.is_new ≡ false

-- a turn, with what is known where it is taken
pub data IsTurn (w : World) : Turn → Type 0 where
  stopped : (stop : Stop) → w.iop.over ≡ Some stop → IsTurn w Stays
  unbooted : w.iop.over ≡ None → w.is_new ≡ true → IsTurn w Boots
  delivery : (d : Delivered) → GoesOn w → delivers (core_of (takes_events w.iop)) ≡ Some d
      → IsTurn w (Delivers d)
  dispatch : (d : Dispatched) → GoesOn w → delivers (core_of (takes_events w.iop)) ≡ None
      → dispatches (core_of (takes_events w.iop)) ≡ Some d → IsTurn w (Dispatches d)
  execution : GoesOn w → Looks w.iop None None true
      → IsTurn w (Executes (row (takes_events w.iop).memory.ram (takes_events w.iop).cpu))
  waiting : GoesOn w → Looks w.iop None None false
      → IsTurn w (Waits (next_coming (takes_events w.iop)))

turn_case : (w : World) (o : Option Stop) (is_new : Bool) (delivering : Option Delivered)
    (dispatching : Option Dispatched) (active : Bool) → w.iop.over ≡ o → w.is_new ≡ is_new
    → Looks w.iop delivering dispatching active
    → IsTurn w (turn_by (takes_events w.iop) o is_new delivering dispatching active)
turn_case w (Some stop) is_new _ _ active over new h = stopped stop over
turn_case w None true _ _ active over new h = unbooted over new
turn_case w None false (Some d) _ active over new h =
    delivery d (record { over = over; booted = new }) h.delivery_is
turn_case w None false None (Some d) active over new h =
    dispatch d (record { over = over; booted = new }) h.delivery_is h.dispatch_is
turn_case w None false None None true over new h =
    execution (record { over = over; booted = new }) h
turn_case w None false None None false over new h =
    waiting (record { over = over; booted = new }) h

-- each step takes a turn
pub turn_is : (w : World) → IsTurn w (turn_of w)
turn_is w =
    turn_case w _ _ _ _ _ refl refl
    (record { delivery_is = refl; dispatch_is = refl; active_is = refl })

-- a step is that turn
pub step_is : (w : World) → step w ≡ takes_turn w (turn_of w)
unfolding step
step_is w = refl

-- it executes an instruction if the turn does
pub executes_are : (w : World) → executes w ≡ is_execution (turn_of w)
unfolding executes
executes_are w = refl

-- and where it is known which turn that is
pub step_as : (w : World) (t : Turn) → turn_of w ≡ t → step w ≡ takes_turn w t
step_as w t e = step_is w ∙ ap (takes_turn w) e

-- which one, where it is stopped, is still to be booted, or goes on
turn_over : (w : World) (stop : Stop) → w.iop.over ≡ Some stop → turn_of w ≡ Stays
turn_over w stop e = rw e refl

pub turn_boots : (w : World) → w.iop.over ≡ None → w.is_new ≡ true → turn_of w ≡ Boots
turn_boots w e f = rw (e, f) refl

turn_as : (s : Iop) (delivering : Option Delivered) (dispatching : Option Dispatched)
    (active : Bool) → s.over ≡ None → Looks s delivering dispatching active
    → turn_of (booted s) ≡ turn_by (takes_events s) None false delivering dispatching active
turn_as s delivering dispatching active over h =
    let v = takes_events s in
    ap (λ o. turn_by v o false (delivers (core_of v)) (dispatches (core_of v))
    (is_active v.kernel)) over
    ∙ rw (h.delivery_is, h.dispatch_is, h.active_is) refl

-- what is stopped stays as it is
pub step_over : (w : World) (stop : Stop) → w.iop.over ≡ Some stop → step w ≡ silent w
step_over w stop e = step_as w Stays (turn_over w stop e)

-- why a run stops, by whether it is stopped and executes
stop_is : (w : World) (left : ℕ) (o : Option Stop) (b : Bool) → w.iop.over ≡ o → executes w ≡ b
    → stop_at w left ≡ stops_by o b left
stop_is w left o b e f = ap (λ x. stops_by x (executes w) left) e ∙ ap (λ x. stops_by o x left) f

-- what is stopped stops the run
pub stop_over : (w : World) (left : ℕ) (stop : Stop) → w.iop.over ≡ Some stop
    → stop_at w left ≡ Some stop
stop_over w left stop e = ap (λ x. stops_by x (executes w) left) e

-- where an instruction is left the run goes on
goes_with : (left : ℕ) → 0 < left → stops_by None true left ≡ None
goes_with zero h = absurd (omega (arith, h))
goes_with (suc left) h = refl

-- the run goes on with this step, which executes an instruction or does not
pub record IsNext (executing : Bool) (left : ℕ) (w : World) (t : Transition World) : Type 0 where
  pub goes_on : stop_at w left ≡ None
  pub executing_is : executes w ≡ executing
  pub step_is : step w ≡ t

-- a turn that executes no instruction
next_without : (w : World) (left : ℕ) (t : Turn) → w.iop.over ≡ None → turn_of w ≡ t
    → is_execution t ≡ false → IsNext false left w (takes_turn w t)
next_without w left t over is none =
    let executing = executes_are w ∙ ap is_execution is ∙ none in
    record {
      goes_on = stop_is w left None false over executing;
      executing_is = executing;
      step_is = step_as w t is;
    }

-- it boots
pub next_boots : (w : World) (left : ℕ) → w.iop.over ≡ None → w.is_new ≡ true
    → IsNext false left w (takes_turn w Boots)
next_boots w left e f = next_without w left Boots e (turn_boots w e f) refl

module _ (s : Iop) (left : ℕ) (over : s.over ≡ None) where
  -- behind the script's events that are due
  abbrev pub taken : Iop
  taken = takes_events s

  -- a line, an alarm or a delay is delivered
  pub next_delivers : (d : Delivered) → delivers (core_of taken) ≡ Some d
      → IsNext false left (booted s) (takes_turn (booted s) (Delivers d))
  next_delivers d e =
      next_without (booted s) left (Delivers d) over
      (turn_as s (Some d) _ _ over
      (record { delivery_is = e; dispatch_is = refl; active_is = refl })) refl

  -- a thread is dispatched
  pub next_dispatches : (d : Dispatched) → delivers (core_of taken) ≡ None
      → dispatches (core_of taken) ≡ Some d
      → IsNext false left (booted s) (takes_turn (booted s) (Dispatches d))
  next_dispatches d e f =
      next_without (booted s) left (Dispatches d) over
      (turn_as s None (Some d) _ over
      (record { delivery_is = e; dispatch_is = f; active_is = refl })) refl

  -- the clock goes on, or all is quiet
  pub next_waits : Looks s None None false
      → IsNext false left (booted s) (takes_turn (booted s) (Waits (next_coming taken)))
  next_waits h =
      next_without (booted s) left (Waits (next_coming taken)) over
      (turn_as s None None false over h) refl

  -- what is executed is executed
  module _ (h : Looks s None None true) where
    abbrev turn : Turn
    turn = Executes (row taken.memory.ram taken.cpu)

    is_executing : executes (booted s) ≡ true
    is_executing = executes_are (booted s) ∙ ap is_execution (turn_as s None None true over h)

    -- an instruction is executed, where one is left
    pub next_performs : 0 < left → IsNext true left (booted s) (takes_turn (booted s) turn)
    next_performs some = record {
      goes_on = stop_is (booted s) left None true over is_executing ∙ goes_with left some;
      executing_is = is_executing;
      step_is = step_as (booted s) turn (turn_as s None None true over h);
    }

    -- where none is left the run stops
    pub stop_budget : left ≡ 0 → stop_at (booted s) left ≡ Some Budget
    stop_budget none =
        stop_is (booted s) left None true over is_executing ∙ ap (stops_by None true) none

-- what runs has nothing to look at first
runs_looks : (s : Iop) → Runs s → Looks s None None true
runs_looks s h =
    let same = takes_none s h.events in
    record {
      delivery_is = ap (λ (v : Iop). delivers (core_of v)) same ∙ h.delivery;
      dispatch_is = ap (λ (v : Iop). dispatches (core_of v)) same ∙ h.dispatch;
      active_is = ap (λ (v : Iop). is_active v.kernel) same ∙ h.active;
    }

-- the instruction that it executes, where one is left
pub next_executes : (s : Iop) (left : ℕ) → Runs s → 0 < left
    → IsNext true left (booted s) (with_state booted (performs s (row s.memory.ram s.cpu)))
next_executes s left runs some =
    subst (λ (v : Iop). IsNext true left (booted s)
    (with_state booted (performs v (row v.memory.ram v.cpu)))) (takes_none s runs.events)
    (next_performs s left runs.over (runs_looks s runs) some)

-- it is not stopped, and nothing is delivered or dispatched before
pub record IsToExecute (s : Iop) : Type 0 where
  pub over : s.over ≡ None
  pub looks : Looks s None None true

-- so it is where an instruction is executed
executes_only : {w : World} {t : Turn} → IsTurn w t → is_execution t ≡ true → IsToExecute w.iop
executes_only (execution goes looks) e = record { over = goes.over; looks = looks }
executes_only _ e = absurd (cc e)

-- and so where a step executes one
pub executes_so : (w : World) → executes w ≡ true → IsToExecute w.iop
executes_so w e = executes_only (turn_is w) (sym (executes_are w) ∙ e)

-- which was booted
booted_only : {w : World} {t : Turn} → IsTurn w t → is_execution t ≡ true → w.is_new ≡ false
booted_only (execution goes looks) e = goes.booted
booted_only _ e = absurd (cc e)

pub executes_booted : (w : World) → executes w ≡ true → booted w.iop ≡ w
executes_booted w e =
    ap (λ new. record { is_new = new; iop = w.iop })
    (sym (booted_only (turn_is w) (sym (executes_are w) ∙ e)))
