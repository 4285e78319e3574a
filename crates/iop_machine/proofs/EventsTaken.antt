-- Each event of the script is taken once, in the first step at its tick or behind it.
use Rattle.std.proofs.Common.{◌≡◌, ℕ, zero, suc, ◌<◌, ◌≤◌, nat_lt, Bool, true, false, cond, not, None, List, [], ◌∷◌, refl, ap, sym, ◌∙◌, subst, arith, inl, inr}
use Rattle.std.proofs.lemmas.List.Elements.{All-contains, All-contains_itself, All-filter, filter_passes}
use Rattle.std.specs.Prelude.{◌⊎◌, Contains, filter}
use Rattle.std.proofs.lemmas.Bool.Decides.{nat_tests}
use Rattle.std.proofs.lemmas.List.{map-id}
use Rattle.iop_kernel.specs.Laws.{IsCore}
use Rattle.iop_script.specs.declared.raise.Raise.{Raise}
use Rattle.iop_machine.specs.EventLaws.{StepsTakeTheirEvents}
use Rattle.iop_machine.specs.Events.{left_events, is_due}
use Rattle.iop_machine.specs.Iop.{Iop, Transition, core_of}
use Rattle.iop_machine.specs.Laws.{RunsKeepEvents}
use Rattle.iop_machine.specs.Stepping.{step, steps, Turn, Stays, Boots, turn_of}
use Rattle.iop_machine.specs.World.{World, beginning}
use Rattle.iop_machine.proofs.EventLemmas.{left_later}
use Rattle.iop_machine.proofs.LoadingLands.{events_after, turn_events}
use Rattle.iop_machine.proofs.KeepingMachine.{begins_as_core}
use Rattle.iop_machine.proofs.Moving.{step_moves}
use Rattle.iop_machine.proofs.Stepping.{IsTurn, stopped, unbooted, turn_is, step_is}
use Rattle.iop_machine.proofs.Elements.{fails_or_passes}

-- one that is left stood before
left_stood : (moment : ℕ) (events : List Raise) (event : Raise)
    → Contains (left_events moment events) event → Contains events event
left_stood moment events event has =
    let is_left = λ (e : Raise). not (is_due moment e) in
    All-contains (Contains events) (left_events moment events) event
    (All-filter is_left (Contains events) events (All-contains_itself events)) has

-- and one that is later is left
later_stands : (moment : ℕ) (events : List Raise) (event : Raise) → Contains events event
    → moment < event.at → Contains (left_events moment events) event
later_stands moment events event has later =
    let due = filter (is_due moment) events in
    elim (fails_or_passes (is_due moment) (λ (e : Raise). e) events event has) [
      | inl stands ↦ stands
      | inr passes ↦ absurd (not_due event later
          (All-contains (λ e. is_due moment e ≡ true) due event
          (filter_passes (is_due moment) events)
          (subst (λ (es : List Raise). Contains es event) (map-id due) passes)))
    ]
  where
    not_due : (e : Raise) → moment < e.at → is_due moment e ≡ true → ⊥
    not_due e after is = grind (arith, nat_tests)

-- those later than a moment, of which the ones that are due at a later one are taken
left_of_later : (moment now : ℕ) (events : List Raise) → moment ≤ now
    → left_events now (filter (λ e. nat_lt moment e.at) events)
    ≡ filter (λ e. nat_lt now e.at) events
left_of_later moment now [] before = refl
left_of_later moment now (event ∷ rest) before =
    by (nat_lt moment event.at) refl (is_due now event) refl (nat_lt now event.at) refl
    (left_of_later moment now rest before)
  where
    left : List Raise
    left = filter (λ e. nat_lt moment e.at) rest

    by : (a : Bool) → nat_lt moment event.at ≡ a → (b : Bool) → is_due now event ≡ b
        → (c : Bool) → nat_lt now event.at ≡ c
        → left_events now left ≡ filter (λ e. nat_lt now e.at) rest
        → left_events now (cond a (event ∷ left) left)
        ≡ cond c (event ∷ filter (λ e. nat_lt now e.at) rest)
        (filter (λ e. nat_lt now e.at) rest)
    by true later true due false come same = rw due same
    by true later false due true come same = rw due (ap (λ (es : List Raise). event ∷ es) same)
    by false later true due false come same = same
    by true later true due true come same = absurd (grind (arith, nat_tests))
    by true later false due false come same = absurd (grind (arith, nat_tests))
    by false later b due true come same = absurd (grind (arith, nat_tests))
    by false later false due false come same = absurd (grind (arith, nat_tests))

-- the same, where all stand
left_of_all : (now : ℕ) (events : List Raise)
    → left_events now events ≡ filter (λ e. nat_lt now e.at) events
left_of_all now [] = refl
left_of_all now (event ∷ rest) =
    by (is_due now event) refl (nat_lt now event.at) refl (left_of_all now rest)
  where
    by : (b : Bool) → is_due now event ≡ b → (c : Bool) → nat_lt now event.at ≡ c
        → left_events now rest ≡ filter (λ e. nat_lt now e.at) rest
        → left_events now (event ∷ rest)
        ≡ cond c (event ∷ filter (λ e. nat_lt now e.at) rest)
        (filter (λ e. nat_lt now e.at) rest)
    by true due false come same = rw due same
    by false due true come same = rw due (ap (λ (es : List Raise). event ∷ es) same)
    by true due true come same = absurd (grind (arith, nat_tests))
    by false due false come same = absurd (grind (arith, nat_tests))

module _ (events : List Raise) where
  -- all stand, or those that are later than a moment that is not later than now
  abbrev StandsInOrder : ℕ → List Raise → Type 0
  StandsInOrder now left = (left ≡ events)
      ⊎ ((moment : ℕ) × (moment ≤ now) × (left ≡ filter (λ e. nat_lt moment e.at) events))

  -- and so do those that are left of them
  left_in_order : (now : ℕ) (left : List Raise) → StandsInOrder now left
      → StandsInOrder now (left_events now left)
  left_in_order now left (inl all) =
      inr (now, omega arith, ap (left_events now) all ∙ left_of_all now events)
  left_in_order now left (inr (moment, before, is)) =
      inr (now, omega arith, ap (left_events now) is ∙ left_of_later moment now events before)

  -- as time goes by
  still_in_order : (now later : ℕ) (left : List Raise) → now ≤ later → StandsInOrder now left
      → StandsInOrder later left
  still_in_order now later left rises (inl all) = inl all
  still_in_order now later left rises (inr (moment, before, is)) =
      inr (moment, omega (arith, rises, before), is)

  -- at first all stand
  all_in_order : StandsInOrder 0 events
  all_in_order = inl refl

  -- whatever the time
  in_order : (now : ℕ) (left : List Raise) → StandsInOrder now left
      → (left ≡ events) ⊎ ((moment : ℕ) × (left ≡ filter (λ e. nat_lt moment e.at) events))
  in_order now left (inl all) = inl all
  in_order now left (inr (moment, before, is)) = inr (moment, is)

  -- the events that are left are events of the script, and those of later ticks are among them
  record Leaves (s : Iop) : Type 0 where
    core : IsCore (core_of s)
    later : (event : Raise) → Contains events event → s.kernel.clock < event.at
        → Contains s.events event
    stood : (event : Raise) → Contains s.events event → Contains events event
    order : StandsInOrder s.kernel.clock s.events

  -- of the events before a turn those behind it are left
  turn_leaves : (w : World) (t : Turn) → Leaves w.iop
      → w.iop.kernel.clock ≤ (step w).state.iop.kernel.clock
      → IsCore (core_of (step w).state.iop)
      → (step w).state.iop.events ≡ events_after w t → Leaves (step w).state.iop
  turn_leaves w t h rises core same = record {
    core = core;
    later = λ event has after.
        let before : w.iop.kernel.clock < event.at = omega (arith, rises, after) in
        subst (λ (es : List Raise). Contains es event) (sym same)
        (later_by t event (h.later event has before) before);
    stood = λ event has.
        h.stood event (stood_by t event (subst (λ (es : List Raise). Contains es event) same has));
    order = still_in_order w.iop.kernel.clock (step w).state.iop.kernel.clock
        (step w).state.iop.events rises
        (subst (StandsInOrder w.iop.kernel.clock) (sym same) (order_by t h.order));
  }
    where
      later_by : (t : Turn) (event : Raise) → Contains w.iop.events event
          → w.iop.kernel.clock < event.at → Contains (events_after w t) event
      later_by Stays event has before = has
      later_by Boots event has before = has
      later_by other event has before =
          later_stands w.iop.kernel.clock w.iop.events event has before

      stood_by : (t : Turn) (event : Raise) → Contains (events_after w t) event
          → Contains w.iop.events event
      stood_by Stays event has = has
      stood_by Boots event has = has
      stood_by other event has = left_stood w.iop.kernel.clock w.iop.events event has

      order_by : (t : Turn) → StandsInOrder w.iop.kernel.clock w.iop.events
          → StandsInOrder w.iop.kernel.clock (events_after w t)
      order_by Stays order = order
      order_by Boots order = order
      order_by other order = left_in_order w.iop.kernel.clock w.iop.events order

  -- each step leaves them so
  step_leaves : (w : World) → Leaves w.iop → Leaves (step w).state.iop
  step_leaves w h =
      let moves = step_moves w h.core in
      turn_leaves w (turn_of w) h moves.rises moves.core
      (ap (λ (t : Transition World). t.state.iop.events) (step_is w)
      ∙ turn_events w (turn_of w))

  -- after all steps
  steps_leave : (w : World) (k : ℕ) → Leaves w.iop → Leaves (steps k w).state.iop
  unfolding steps
  steps_leave w zero h = h
  steps_leave w (suc k) h = step_leaves (steps k w).state (steps_leave w k h)

-- from the beginning, where all are left
pub runs_keep_events : RunsKeepEvents
runs_keep_events = λ size modules events k.
    let first = beginning size modules events in
    let s = (steps k first).state.iop in
    let h = steps_leave events first k (record {
      core = begins_as_core size modules events;
      later = λ event has after. has;
      stood = λ event has. has;
      order = all_in_order events;
    }) in
    record {
      taken = left_later s.kernel.clock s.events;
      later = h.later;
      stood = h.stood;
      order = in_order events s.kernel.clock s.events h.order;
    }

-- a machine that goes on leaves those that are not due
turn_takes : {w : World} {t : Turn} → w.iop.over ≡ None → w.is_new ≡ false → IsTurn w t
    → events_after w t ≡ left_events w.iop.kernel.clock w.iop.events
turn_takes over booted (stopped stop stops) = absurd (cc (over, stops))
turn_takes over booted (unbooted _ new) = absurd (cc (booted, new))
turn_takes over booted _ = refl

step_events : (w : World) → w.is_new ≡ false → w.iop.over ≡ None
    → (step w).state.iop.events ≡ left_events w.iop.kernel.clock w.iop.events
step_events w booted over =
    ap (λ (t : Transition World). t.state.iop.events) (step_is w) ∙ turn_events w (turn_of w)
    ∙ turn_takes over booted (turn_is w)

pub steps_take_their_events : StepsTakeTheirEvents
steps_take_their_events = λ w new over.
    let now = w.iop.kernel.clock in
    let same = step_events w new over in
    record {
      taken = λ event has.
          let left = subst (λ (es : List Raise). Contains es event) same has in (
            left_stood now w.iop.events event left,
            All-contains (λ (e : Raise). now < e.at) (left_events now w.iop.events) event
                (left_later now w.iop.events) left,
          );
      left = λ event has later.
          subst (λ (es : List Raise). Contains es event) (sym same)
          (later_stands now w.iop.events event has later);
    }
