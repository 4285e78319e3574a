-- How a run goes on from step to step.
use Rattle.std.proofs.Common.{◌≡◌, ℕ, suc, ◌+◌, ◌-◌, Bool, false, Option, Some, None, [], refl, ap, sym, ◌∙◌, arith, subst}
use borrow.Author.Count.{below_more}
use Rattle.iop_base.specs.Numbers.{one_if}
use Rattle.iop_base.specs.Output.{Output, Gives}
use Rattle.iop_base.proofs.Giving.{gives_none, gives_then}
use Rattle.iop_base.specs.declared.stop.Stop.{Stop}
use Rattle.iop_machine.specs.Advancing.{Reached, Advances, Stops}
use Rattle.iop_machine.specs.Running.{GoesOn}
use Rattle.iop_machine.specs.Stepping.{steps, executes, executed, stop_at, stops_by}
use Rattle.iop_machine.specs.World.{World}
use Rattle.iop_machine.specs.Iop.{Transition, Takes}
use Rattle.iop_machine.proofs.Stepping.{IsNext}

over_by : (o : Option Stop) (b : Bool) (left : ℕ) → stops_by o b left ≡ None → o ≡ None
over_by None b left h = refl
over_by (Some stop) b left h = cc

pub not_over : (v : World) (left : ℕ) → stop_at v left ≡ None → v.iop.over ≡ None
not_over v left h = over_by v.iop.over (executes v) left h

module _ {P : Type 0} {stands_for : P → World → Type 0} where
  -- the start, where nothing was given
  pub reached_none : (w : World) (budget : ℕ) (now : P) (a b : Output) → stands_for now w
      → Gives a b [] → b.failed ≡ false → Reached stands_for w budget 0 budget now a b
  unfolding steps executed
  reached_none w budget now a b h none well = record {
    before = λ j lt. absurd (omega (arith, lt));
    state = h;
    gives = none;
    well = well;
    left_is = omega arith;
  }

  -- at the start it stops
  pub stops_at_once : (w : World) (budget : ℕ) (stop : Stop) (now : P) (a : Output)
      → stands_for now w → a.failed ≡ false → stop_at w budget ≡ Some stop
      → (k : ℕ) × Stops stands_for w budget k stop now a a
  unfolding steps
  stops_at_once w budget stop now a h well stops = (
    0,
    record {
      left = budget;
      reached = reached_none w budget now a a h (gives_none a) well;
      stops = stops;
    },
  )

  -- all pieces of the steps were given
  pub told : {w : World} {budget k left : ℕ} {now : P} {a c : Output}
      → Advances stands_for w budget k left now a c → Gives a c (steps (suc k) w).pieces
  unfolding steps
  told h = gives_then h.first h.last

  -- where no write failed the run goes on from here
  pub reached_more : {w : World} {budget k left : ℕ} {now : P} {a c : Output}
      → Advances stands_for w budget k left now a c → c.failed ≡ false
      → Reached stands_for w budget (suc k) left now a c
  reached_more h well = record
      { before = h.before; state = h.state; gives = told h; well = well; left_is = h.left_is }

  module _ {w : World} {budget k left : ℕ} {now : P} {a b : Output}
      (r : Reached stands_for w budget k left now a b) where
    now_left : budget - executed k w ≡ left
    now_left = omega (arith, r.left_is)

    -- whether the run goes on, or stops, here
    pub here : (o : Option Stop) → stop_at (steps k w).state left ≡ o
        → stop_at (steps k w).state (budget - executed k w) ≡ o
    here o h = ap (stop_at (steps k w).state) now_left ∙ h

    -- one step more
    pub advanced : {executing : Bool} {t : Transition World} {new : P} {c : Output} (rest : ℕ)
        → rest + one_if executing ≡ left → IsNext executing left (steps k w).state t
        → Takes stands_for t new b c → Advances stands_for w budget k rest new a c
    unfolding steps executed
    advanced {executing} {t} {new} {c} rest sum next h =
        record {
          before = λ j lt. below_more (GoesOn w budget) k r.before (here None next.goes_on) j
              (omega (arith, lt));
          state = subst (stands_for new)
              (sym (ap (λ (d : Transition World). d.state) next.step_is)) h.state;
          left_is = omega (arith, r.left_is, sum, ap one_if next.executing_is);
          seen = b;
          first = r.gives;
          well = r.well;
          last = subst (λ (d : Transition World). Gives b c d.pieces) (sym next.step_is) h.gives;
        }

  -- one step from the start, which executes no instruction
  pub one_step : {w : World} {budget : ℕ} {t : Transition World} {new : P} {a b : Output} (now : P)
      → stands_for now w → a.failed ≡ false
      → IsNext false budget w t → Takes stands_for t new a b
      → Advances stands_for w budget 0 budget new a b
  unfolding steps
  one_step {w} {budget} {t} {new} {a} {b} now stands well next h =
      advanced (reached_none w budget now a a stands (gives_none a) well) budget
      (omega arith) next h
