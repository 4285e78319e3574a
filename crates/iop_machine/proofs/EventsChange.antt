-- The script's events that are due raise or lower their interrupt lines, and change nothing else.
use Rattle.std.proofs.Common.{◌≡◌, ◌≢◌, ℕ, zero, suc, ◌<◌, ◌≤◌, Bool, true, false, if◌then◌else◌, List, [], ◌∷◌, ◌++◌, length, refl, ap, sym, ◌∙◌, subst, arith}
use Rattle.std.specs.Prelude.{All, filter, slice_index_or}
use Rattle.std.proofs.Math.ListN.{length-set}
use Rattle.std.proofs.lemmas.Bool.Decides.{nat_tests}
use Rattle.std.proofs.lemmas.List.{get_or-set_other, get_or-set_same}
use Rattle.std.proofs.lemmas.List.Elements.{All-contains_itself, All-filter, All-head, All-tail, filter-append, filter_passes}
use Rattle.iop_intr.specs.InterruptLines.{idle, line_of, changed, raising, lowering}
use Rattle.iop_intr.specs.declared.irq_line.IrqLine.{IrqLine}
use Rattle.iop_script.specs.declared.raise.Raise.{Raise}
use Rattle.iop_machine.specs.EventLaws.{ChangesLines, EventsChangeTheirLines}
use Rattle.iop_machine.specs.Events.{is_due, due_events}
use Rattle.iop_machine.specs.Iop.{Iop}
use Rattle.iop_machine.specs.Looking.{after_event, after_events}
use Rattle.iop_machine.proofs.EventLemmas.{first_due}

-- a line once another, or itself, is raised or lowered
abbrev changed_line : List IrqLine → (l : ℕ) (up : Bool) (n : ℕ) → IrqLine
changed_line irqs l up n = line_of (changed (λ x. record x { raised = up }) irqs l) n

-- an event leaves its line raised or lowered
after_is : (irqs : List IrqLine) (event : Raise)
    → after_event irqs event ≡ changed (λ x. record x { raised = event.up }) irqs event.line
after_is irqs event = by event.up
  where
    by : (up : Bool)
        → (if up then raising irqs event.line else lowering irqs event.line)
        ≡ changed (λ x. record x { raised = up }) irqs event.line
    by true = refl
    by false = refl

-- but for whether it is raised it is as it was
changes_alone : (irqs : List IrqLine) (l : ℕ) (up : Bool) (n : ℕ)
    → changed_line irqs l up n
    ≡ record (line_of irqs n) { raised = (changed_line irqs l up n).raised }
changes_alone [] l up n = refl
changes_alone (x ∷ xs) zero up zero = refl
changes_alone (x ∷ xs) zero up (suc n) = refl
changes_alone (x ∷ xs) (suc l) up zero = refl
changes_alone (x ∷ xs) (suc l) up (suc n) = changes_alone xs l up n

-- and so over several events
change_alone : (irqs : List IrqLine) (events : List Raise) (n : ℕ)
    → let new = line_of (after_events irqs events) n in
    new ≡ record (line_of irqs n) { raised = new.raised }
change_alone irqs [] n = refl
change_alone irqs (event ∷ rest) n =
    let new = line_of (after_events (after_event irqs event) rest) n in
    change_alone (after_event irqs event) rest n
    ∙ ap (λ (xs : List IrqLine). record (line_of xs n) { raised = new.raised })
    (after_is irqs event)
    ∙ ap (λ (x : IrqLine). record x { raised = new.raised })
    (changes_alone irqs event.line event.up n)

-- events of other lines
abbrev AreOfOthers : ℕ → List Raise → Type 0
AreOfOthers n events = All (λ e. e.line ≢ n) events

-- a line that is of none of them stays as it is
others_stay : (irqs : List IrqLine) (events : List Raise) (n : ℕ) → AreOfOthers n events
    → line_of (after_events irqs events) n ≡ line_of irqs n
others_stay irqs [] n none = refl
others_stay irqs (event ∷ rest) n none =
    let other = All-head (λ (e : Raise). e.line ≢ n) event rest none in
    others_stay (after_event irqs event) rest n
    (All-tail (λ (e : Raise). e.line ≢ n) event rest none)
    ∙ ap (λ (xs : List IrqLine). line_of xs n) (after_is irqs event)
    ∙ get_or-set_other irqs event.line n _ idle (λ same. other (sym same))

-- the last event of a line says whether it is raised
last_says : (irqs : List IrqLine) (before : List Raise) (event : Raise) (behind : List Raise)
    → event.line < length irqs → AreOfOthers event.line behind
    → (line_of (after_events irqs (before ++ event ∷ behind)) event.line).raised ≡ event.up
last_says irqs [] event behind within none =
    ap (λ (l : IrqLine). l.raised)
    (others_stay (after_event irqs event) behind event.line none
    ∙ ap (λ (xs : List IrqLine). line_of xs event.line) (after_is irqs event)
    ∙ get_or-set_same irqs event.line _ idle within)
last_says irqs (other ∷ before) event behind within none =
    let all = ap length (after_is irqs other)
    ∙ length-set irqs other.line (record (line_of irqs other.line) { raised = other.up }) in
    last_says (after_event irqs other) before event behind (omega (arith, within, all)) none

module _ (clock : ℕ) where
  -- an event that is due has come
  has_come : (event : Raise) → is_due clock event ≡ true → event.at ≤ clock
  has_come event is = grind (arith, nat_tests)

  -- where no event that is due has a line, none of those that are taken has
  none_has : (n : ℕ) (events : List Raise) → All (λ e. e.at ≤ clock → e.line ≢ n) events
      → AreOfOthers n (due_events clock events)
  none_has n events none =
      let of_others = λ (e : Raise). e.at ≤ clock → e.line ≢ n in
      let stood = All-filter (is_due clock) of_others events none in
      let due = filter_passes (is_due clock) events in λ k d below.
      stood k d below
      (has_come (slice_index_or (filter (is_due clock) events) k d) (due k d below))

  -- those that are taken, where one is due
  due_parts : (before : List Raise) (event : Raise) (behind : List Raise) → event.at ≤ clock
      → due_events clock (before ++ event ∷ behind)
      ≡ due_events clock before ++ event ∷ due_events clock behind
  due_parts before event behind come =
      filter-append (is_due clock) before (event ∷ behind)
      ∙ ap (λ (left : List Raise). due_events clock before ++ left)
      (first_due clock event behind come)

module _ (s : Iop) where
  changes_lines : ChangesLines s
  changes_lines =
      let old = s.kernel.irqs in
      let now = s.kernel.clock in
      record {
        last = λ before behind event is due within.
            subst (λ events. (line_of (after_events old events) event.line).raised ≡ event.up)
            (sym (ap (due_events now) is ∙ due_parts now before event behind due.0))
            (last_says old (due_events now before) event (due_events now behind) within
            (none_has now event.line behind due.1));
        lines = change_alone old (due_events now s.events);
        others = λ n none.
            others_stay old (due_events now s.events) n
            (none_has now n s.events (λ k d below.
            none (slice_index_or s.events k d) (All-contains_itself s.events k d below)));
        rest = refl;
      }

pub events_change_their_lines : EventsChangeTheirLines
events_change_their_lines = changes_lines
