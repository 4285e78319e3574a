-- The script's events that are still to come: interrupt lines, each of which is raised or lowered
-- at its tick. That those that are due are all taken together is this project's own profile.
use Rattle.std.specs.Prelude.{◌≡◌, ℕ, ◌<◌, ◌≤◌, min, nat_le, not, Bool, Option, Some, None, List, ◌∷◌, [], filter, fold, length, drop, All, AllPairs}
use Rattle.iop_intr.specs.declared.irqs.TheConstants.{IRQ_LINES}
use Rattle.iop_saved_script.specs.Sizes.{IsShort}
use Rattle.iop_script.specs.declared.raise.Raise.{Raise}
use Rattle.iop_time.specs.declared.ticks.TheConstants.{NEVER}
use Rattle.iop_machine.specs.declared.events.Events.TheInside.{Inside}

-- events that can come in a run: in the order of their ticks, and of lines that there are
pub record CanCome (events : List Raise) : Type 0 where
  pub order : AllPairs (λ x y. x.at ≤ y.at) events
  pub ticks : All (λ e. e.at < NEVER) events
  pub lines : All (λ e. e.line < IRQ_LINES) events

-- whether an event is due at a moment
abbrev pub is_due : ℕ → Raise → Bool
is_due moment event = nat_le event.at moment

-- the events that are due at a moment
abbrev pub due_events : ℕ → List Raise → List Raise
due_events moment events = filter (is_due moment) events

-- the events that are left once these are taken
abbrev pub left_events : ℕ → List Raise → List Raise
left_events moment events = filter (λ e. not (is_due moment e)) events

-- the earlier of two moments, if there are two
abbrev pub earlier : Option ℕ → Option ℕ → Option ℕ
earlier None other = other
earlier (Some moment) None = Some moment
earlier (Some moment) (Some other) = Some (min moment other)

-- the earlier of a moment and the tick of an event
abbrev pub earlier_with : Option ℕ → Raise → Option ℕ
earlier_with moment event = earlier moment (Some event.at)

-- the least tick of all events
abbrev pub next_tick : List Raise → Option ℕ
next_tick events = fold earlier_with None events

-- the events that the program has not taken yet
abbrev pub events_of : Inside → List Raise
events_of e = drop e.taken e.events.items

-- what always holds of them
pub record AreLeft (e : Inside) : Type 0 where
  -- those that are left can come
  pub come : CanCome (events_of e)
  -- all have room in the count of a snapshot
  pub short : IsShort e.events.items
  -- no more were taken than there were
  pub taken : e.taken ≤ length e.events.items

-- this is the next event, which was taken, or none was due
abbrev pub TakesDue : Option Raise → (moment : ℕ) → (old new : List Raise) → Type 0
TakesDue None moment old new = (new ≡ old) × (due_events moment old ≡ [])
TakesDue (Some event) moment old new =
    (event.line < IRQ_LINES)
    × (due_events moment old ≡ event ∷ due_events moment new)
    × (left_events moment old ≡ left_events moment new)
    × (length new < length old)
