-- A run from behind the script's events that are due is the run from before them.
use Rattle.std.proofs.Common.{◌≡◌, ℕ, zero, suc, ◌+◌, ◌-◌, ◌≤◌, None, false, ◌++◌, refl, ap, sym, ◌∙◌, arith, subst}
use Rattle.iop_base.specs.Numbers.{one_if}
use Rattle.iop_base.specs.Output.{Output, Gives}
use Rattle.iop_exec.specs.Row.{row}
use Rattle.iop_kernel.specs.Deliveries.{delivers}
use Rattle.iop_kernel.specs.Dispatching.{dispatches}
use Rattle.iop_kernel.specs.System.{is_active}
use Rattle.iop_machine.specs.Advancing.{Advances}
use Rattle.iop_machine.specs.Iop.{Iop, Transition, with_state, core_of}
use Rattle.iop_machine.specs.Looking.{takes_events, next_coming}
use Rattle.iop_machine.specs.Running.{GoesOn, GoesOnFor}
use Rattle.iop_machine.specs.Stepping.{Turn, turn_by, turn_of, moves_to, performs, waits_by, takes_turn, is_execution, step, steps, executes, executed, stops_by, stop_at}
use Rattle.iop_machine.specs.World.{World, booted}
use Rattle.iop_machine.proofs.Composing.{steps_front, executed_front, goes_on_with}
use Rattle.iop_machine.proofs.LookingLemmas.{takes_again}
use Rattle.iop_machine.proofs.Stepping.{IsTurn, stopped, unbooted, delivery, dispatch, execution, waiting, turn_is, step_is, executes_are}

-- their next steps are the same
pub record AreAlike (w v : World) : Type 0 where
  pub over : w.iop.over ≡ v.iop.over
  pub executes : executes w ≡ executes v
  pub step : step w ≡ step v

module _ (w v : World) (alike : AreAlike w v) where
  -- so are all steps from the first on
  steps_alike : (k : ℕ) → steps (suc k) w ≡ steps (suc k) v
  steps_alike k =
      steps_front w k
      ∙ ap (λ (t : Transition World). record {
        state = (steps k t.state).state;
        pieces = t.pieces ++ (steps k t.state).pieces;
        bound = t.bound ++ (steps k t.state).bound;
      }) alike.step
      ∙ sym (steps_front v k)

  -- and what they execute
  executed_alike : (k : ℕ) → executed (suc k) w ≡ executed (suc k) v
  executed_alike k =
      executed_front w k
      ∙ ap (λ b. one_if b + executed k (step w).state) alike.executes
      ∙ ap (λ (t : Transition World). one_if (executes v) + executed k t.state) alike.step
      ∙ sym (executed_front v k)

  -- so both go on
  goes_alike : (budget j : ℕ) → GoesOn v budget j → GoesOn w budget j
  unfolding steps executed
  goes_alike budget zero goes =
      ap (λ o. stops_by o (executes w) (budget - 0)) alike.over
      ∙ ap (λ b. stops_by v.iop.over b (budget - 0)) alike.executes ∙ goes
  goes_alike budget (suc j) goes =
      ap (λ (t : Transition World). stop_at t.state (budget - executed (suc j) w)) (steps_alike j)
      ∙ ap (λ n. stop_at (steps (suc j) v).state (budget - n)) (executed_alike j) ∙ goes

  -- the pieces of the first steps are the same, and the step behind them
  pieces_alike : (k : ℕ) → (steps k w).pieces ≡ (steps k v).pieces
  unfolding steps
  pieces_alike zero = refl
  pieces_alike (suc k) = ap (λ (t : Transition World). t.pieces) (steps_alike k)

  next_alike : (k : ℕ) → step (steps k w).state ≡ step (steps k v).state
  unfolding steps
  next_alike zero = alike.step
  next_alike (suc k) = ap (λ (t : Transition World). step t.state) (steps_alike k)

  pub advances_alike : {P : Type 0} {stands_for : P → World → Type 0} {budget k left : ℕ}
      {now : P} {a b : Output}
      → Advances stands_for v budget k left now a b → Advances stands_for w budget k left now a b
  advances_alike {stands_for = stands_for} {budget} {k} {left} {now} {a} {b} h = record {
    before = λ j lt. goes_alike budget j (h.before j lt);
    state = subst (λ (t : Transition World). stands_for now t.state) (sym (steps_alike k)) h.state;
    left_is = let same = executed_alike k in omega (arith, h.left_is, same);
    seen = h.seen;
    first = subst (Gives a h.seen) (sym (pieces_alike k)) h.first;
    well = h.well;
    last = subst (λ (t : Transition World). Gives h.seen b t.pieces) (sym (next_alike k)) h.last;
  }

-- where more is allowed more is left
pub advances_more : {P : Type 0} {stands_for : P → World → Type 0} {w : World}
    {most k left : ℕ} {now : P} {a b : Output} (budget : ℕ) → most ≤ budget
    → Advances stands_for w most k left now a b
    → Advances stands_for w budget k (budget - most + left) now a b
advances_more {w = w} {most} {k} {left} budget le h =
    let all : most + (budget - most) ≡ budget = omega (arith, le) in
    record {
      before = subst (λ n. GoesOnFor w n (suc k)) all
          (goes_on_with w most (budget - most) (suc k) h.before);
      state = h.state;
      left_is = omega (arith, le, h.left_is);
      seen = h.seen;
      first = h.first;
      well = h.well;
      last = h.last;
    }

-- a state and the one behind its events that are due take the same turn
same_turn : (s : Iop) → turn_of (booted s) ≡ turn_of (booted (takes_events s))
same_turn s =
    ap (λ (v : Iop). turn_by v s.over false (delivers (core_of v)) (dispatches (core_of v))
    (is_active v.kernel)) (sym (takes_again s))

-- which makes the same of them
same_taken : {s : Iop} {t : Turn} → s.over ≡ None → IsTurn (booted s) t
    → takes_turn (booted s) t ≡ takes_turn (booted (takes_events s)) t
same_taken over (stopped stop e) = absurd (cc (over, e))
same_taken over (unbooted _ new) = absurd (cc new)
same_taken {s} over (delivery d _ _) =
    ap (λ v. with_state booted (moves_to v d.core d.line)) (sym (takes_again s))
same_taken {s} over (dispatch d _ _ _) =
    ap (λ v. with_state booted (moves_to v d.core d.line)) (sym (takes_again s))
same_taken {s} over (execution _ _) =
    let v = takes_events s in
    ap (λ x. with_state booted (performs x (row v.memory.ram v.cpu))) (sym (takes_again s))
same_taken {s} over (waiting _ _) =
    ap (λ x. with_state booted (waits_by x (next_coming (takes_events s)))) (sym (takes_again s))

-- so they are alike
pub taken_alike : (s : Iop) → s.over ≡ None → AreAlike (booted s) (booted (takes_events s))
taken_alike s over =
    let v = booted (takes_events s) in
    record {
      over = refl;
      executes = executes_are (booted s) ∙ ap is_execution (same_turn s) ∙ sym (executes_are v);
      step = step_is (booted s) ∙ same_taken over (turn_is (booted s))
          ∙ ap (takes_turn v) (same_turn s) ∙ sym (step_is v);
    }
