-- How the calls of a run follow one another, and how it ends.
use Rattle.std.proofs.Common.{◌≡◌, ℕ, suc, ◌+◌, Bool, true, false, Some, List, [], ◌∷◌, ◌++◌, refl, ap, sym, ◌∙◌, arith, subst, append_assoc, add-suc}
use Rattle.std.specs.Borrow.{GName}
use Rattle.iop_base.specs.Piece.{Piece, Traced, Told, console_of, trace_of}
use Rattle.iop_base.specs.Output.{Output, Adds, Gives, HasNoFault, StopsShort, FailsAt, extended}
use Rattle.iop_base.specs.declared.stop.Stop.{Stop}
use Rattle.iop_base.proofs.Giving.{gives_then, gives_whole, gives_short, gives_names, adds_then}
use Rattle.iop_ports.specs.Sinks.{SinkTold}
use Rattle.iop_trace.specs.Outs.{output_with}
use Rattle.iop_machine.specs.declared.progress.Progress.{Progress}
use Rattle.iop_machine.specs.declared.progress.Progress.TheVariants.{Stopped, Advanced}
use Rattle.iop_machine.specs.Advancing.{Reached, Advances, Stops, Progresses}
use Rattle.iop_machine.specs.Running.{GoesOnFor, Finishes, Faults}
use Rattle.iop_machine.specs.Stepping.{step, steps, executed, stop_at}
use Rattle.iop_machine.specs.World.{World}
use Rattle.iop_machine.specs.Iop.{Transition}
use Rattle.iop_machine.proofs.Composing.{goes_on_both, steps_more, executed_more}
use Rattle.iop_machine.proofs.Reaching.{here, told}

-- the same of something else that stands for each state for which it stands
module _ {P Q : Type 0} (stands_for : P → World → Type 0) (stands : Q → World → Type 0) (now : P)
    (new : Q) (to : (v : World) → stands_for now v → stands new v) (w : World) (budget : ℕ)
    (a b : Output) where
  reached_as : {k left : ℕ} → Reached stands_for w budget k left now a b
      → Reached stands w budget k left new a b
  reached_as h = record {
    before = h.before;
    state = to _ h.state;
    gives = h.gives;
    well = h.well;
    left_is = h.left_is;
  }

  pub progresses_as : (p : Progress) → Progresses stands_for p w budget now a b
      → Progresses stands p w budget new a b
  progresses_as (Stopped stop) h = (
    h.0,
    record {
      left = h.1.left;
      reached = reached_as h.1.reached;
      stops = h.1.stops;
    },
  )
  progresses_as (Advanced left) h = (
    h.0,
    record {
      before = h.1.before;
      state = to _ h.1.state;
      left_is = h.1.left_is;
      seen = h.1.seen;
      first = h.1.first;
      well = h.1.well;
      last = h.1.last;
    },
  )

-- the borrows stay, whatever was done
pub progress_names : {P : Type 0} (stands_for : P → World → Type 0) (p : Progress) (w : World)
    (budget : ℕ) (now : P) (a b : Output) → Progresses stands_for p w budget now a b
    → b.names ≡ a.names
progress_names stands_for (Stopped stop) w budget now a b h = gives_names h.1.reached.gives
progress_names stands_for (Advanced left) w budget now a b h = gives_names (told h.1)

module _ {P : Type 0} {stands_for : P → World → Type 0} where
  module _ {w : World} {most i budget : ℕ} {now : P} {a b : Output}
      (r : Reached stands_for w most i budget now a b) where
    -- the run goes on for as many steps as it does from here
    goes_on_from : (k : ℕ) → GoesOnFor (steps i w).state budget k → GoesOnFor w most (i + k)
    goes_on_from k before =
        let all_is : executed i w + budget ≡ most = omega (arith, r.left_is) in
        subst (λ n. GoesOnFor w n (i + k)) all_is
        (goes_on_both w (executed i w) budget i k refl
        (subst (λ n. GoesOnFor w n i) (sym all_is) r.before) before)

    -- what follows further steps follows them all
    pub then_advances : {Q : Type 0} {stands : Q → World → Type 0} {k left : ℕ} {new : Q}
        {c : Output}
        → Advances stands (steps i w).state budget k left new b c
        → Advances stands w most (i + k) left new a c
    then_advances {stands = stands} {k} {left} {new} {c} h =
        let next = ap (λ n. steps n w) (sym (add-suc i k)) ∙ steps_more w i (suc k) in
        let all = steps_more w i k in
        record {
          before = subst (GoesOnFor w most) (add-suc i k) (goes_on_from (suc k) h.before);
          state = subst (stands new) (sym (ap (λ (d : Transition World). d.state) next)) h.state;
          left_is = omega (
            arith,
            r.left_is,
            h.left_is,
            executed_more w i (suc k),
            ap (λ n. executed n w) (add-suc i k),
          );
          seen = h.seen;
          first = subst (Gives a h.seen) (sym (ap (λ (d : Transition World). d.pieces) all))
              (gives_then r.gives h.first);
          well = h.well;
          last = subst (λ (v : World). Gives h.seen c (step v).pieces)
              (sym (ap (λ (d : Transition World). d.state) all)) h.last;
        }

    -- so does what it reaches
    then_reaches : {k left : ℕ} {new : P} {c : Output}
        → Reached stands_for (steps i w).state budget k left new b c
        → Reached stands_for w most (i + k) left new a c
    then_reaches {k} {left} {new} {c} h =
        let all = steps_more w i k in
        record {
          before = goes_on_from k h.before;
          state = subst (stands_for new) (sym (ap (λ (d : Transition World). d.state) all)) h.state;
          gives = subst (Gives a c) (sym (ap (λ (d : Transition World). d.pieces) all))
              (gives_then r.gives h.gives);
          well = h.well;
          left_is = omega (arith, r.left_is, h.left_is, executed_more w i k);
        }

    -- and where it stops
    pub then_stops : {k : ℕ} {stop : Stop} {new : P} {c : Output}
        → Stops stands_for (steps i w).state budget k stop new b c
        → Stops stands_for w most (i + k) stop new a c
    then_stops {k} {stop} h = record {
      left = h.left;
      reached = then_reaches h.reached;
      stops = subst (λ (v : World). stop_at v h.left ≡ Some stop)
          (sym (ap (λ (d : Transition World). d.state) (steps_more w i k))) h.stops;
    }

-- what is seen of two sinks before a run and after it, by what is seen of the object that writes to
-- them
pub record SameSeen (x a : Output) : Type 0 where
  pub console : x.console ≡ a.console
  pub trace : x.trace ≡ a.trace
  pub console_faults : x.console_faults ≡ a.console_faults
  pub trace_faults : x.trace_faults ≡ a.trace_faults

pub same_sinks : {console console' trace trace' : SinkTold} {failed failed' : Bool}
    {names names' : List GName}
    → console ≡ console' → trace ≡ trace'
    → SameSeen (output_with console trace failed names) (output_with console' trace' failed' names')
same_sinks e f = record {
  console = ap (λ (t : SinkTold). t.taken) e;
  trace = ap (λ (t : SinkTold). t.taken) f;
  console_faults = ap (λ (t : SinkTold). t.faults) e;
  trace_faults = ap (λ (t : SinkTold). t.faults) f;
}

fails_since : {a b : Output} (c : Output) (p : Piece) → HasNoFault a b → FailsAt p b c
    → FailsAt p a c
fails_since c (Traced bytes) h f = (omega (arith, f.0, h.trace), f.1 ∙ h.console)
fails_since c (Told bytes) h f = (omega (arith, f.0, h.console), f.1 ∙ h.trace)

module _ {x y a c : Output} (old : SameSeen x a) (new : SameSeen y c) where
  adds_seen : {ps : List Piece} → Adds a c ps → Adds x y ps
  adds_seen {ps} p = record {
    console = new.console ∙ p.console ∙ ap (λ o. extended o (console_of ps)) (sym old.console);
    trace = new.trace ∙ p.trace ∙ ap (λ o. extended o (trace_of ps)) (sym old.trace);
  }

  none_seen : HasNoFault a c → HasNoFault x y
  none_seen h = record {
    console = new.console_faults ∙ h.console ∙ sym old.console_faults;
    trace = new.trace_faults ∙ h.trace ∙ sym old.trace_faults;
  }

  fails_seen : (p : Piece) → FailsAt p a c → FailsAt p x y
  fails_seen (Traced bytes) h = (
    omega (arith, h.0, old.trace_faults, new.trace_faults),
    new.console_faults ∙ h.1
        ∙ sym old.console_faults,
  )
  fails_seen (Told bytes) h = (
    omega (arith, h.0, old.console_faults, new.console_faults),
    new.trace_faults ∙ h.1
        ∙ sym old.trace_faults,
  )

  -- a run that stops has finished
  pub finished : {P : Type 0} {stands_for : P → World → Type 0} {w : World} {budget k : ℕ}
      {stop : Stop} {now : P} → Stops stands_for w budget k stop now a c → a.failed ≡ false
      → (n : ℕ) × stands_for now (steps n w).state × Finishes w budget n stop x y
  finished {k = k} {stop} h fresh =
      let all = gives_whole h.reached.gives fresh h.reached.well in (
        k,
        h.reached.state,
        record {
          ends = record {
            before = h.reached.before;
            now = here h.reached (Some stop) h.stops;
          };
          adds = adds_seen all.0;
          no_fault = none_seen all.1;
        },
      )

  -- a run in which a write failed is at fault
  pub faulted : {P : Type 0} {stands_for : P → World → Type 0} {w : World} {budget k left : ℕ}
      {now : P} → Advances stands_for w budget k left now a c → a.failed ≡ false → c.failed ≡ true
      → (n : ℕ) × stands_for now (steps (suc n) w).state × Faults w budget n x y
  faulted {w = w} {budget} {k} h fresh e =
      let first = gives_whole h.first fresh h.well in
      let short = gives_short h.last h.well e in (
        k,
        h.state,
        record {
          before = h.before;
          sent = short.before;
          part = short.part;
          piece = short.piece;
          unsent = short.after;
          pieces_are = short.pieces_are;
          is_part = short.is_part;
          adds = adds_seen (subst (Adds a c)
              (sym (append_assoc (steps k w).pieces short.before (short.part ∷ [])))
              (adds_then first.0 short.adds));
          fails = fails_seen short.piece (fails_since c short.piece first.1 short.fails);
        },
      )

-- the run stops short at one of its pieces
pub stops_short : {w : World} {budget k : ℕ} {x y : Output} → Faults w budget k x y
    → StopsShort x y (steps (suc k) w).pieces
unfolding steps
stops_short {w} {budget} {k} {x} {y} f = record {
  before = (steps k w).pieces ++ f.sent;
  part = f.part;
  piece = f.piece;
  after = f.unsent;
  pieces_are = ap (λ p. (steps k w).pieces ++ p) f.pieces_are
      ∙ sym (append_assoc (steps k w).pieces f.sent (f.piece ∷ f.unsent));
  is_part = f.is_part;
  adds = f.adds;
  fails = f.fails;
}
