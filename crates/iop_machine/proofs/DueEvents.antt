-- The script's events that are due: those before the first one that is later.
use Rattle.std.proofs.Common.{◌≡◌, ℕ, zero, suc, ◌+◌, ◌<◌, ◌≤◌, Bool, true, false, nat_lt, Some, None, List, [], ◌∷◌, length, get_or, take, drop, refl, ap, sym, ◌∙◌, subst, arith}
use Rattle.std.specs.Prelude.{position}
use Rattle.std.specs.List.{position_or_len}
use Rattle.std.proofs.lemmas.Bool.{ltb-false}
use Rattle.std.proofs.lemmas.Bool.Decides.{nat_tests}
use Rattle.std.proofs.lemmas.Grind.{common_steps}
use Rattle.std.proofs.lemmas.List.{drop_all, take_all}
use Rattle.std.proofs.lemmas.List.Elements.{All-nil}
use Rattle.std.proofs.lemmas.List.Quantifiers.{position-Some}
use Rattle.std.proofs.lemmas.List.Sums.{fails_before_first}
use Rattle.iop_script.specs.declared.raise.Raise.{Raise}
use Rattle.iop_machine.specs.Events.{CanCome, due_events}
use Rattle.iop_machine.proofs.EventLemmas.{AreLater, later_due, first_due, all_later, rest_comes}

-- where none is found, none passes the test
none_found : {X : Type 0} (p : X → Bool) (xs : List X) (d : X) → position p xs ≡ None → (k : ℕ)
    → k < length xs → p (get_or xs k d) ≡ false
none_found p xs d none k within =
    fails_before_first p xs k d (before (nat_lt (position_or_len p xs) (length xs)) refl)
  where
    is_none : (n : ℕ) → position p xs ≡ Some n → position p xs ≡ None → ⊥
    is_none n some nothing = cc

    before : (b : Bool) → nat_lt (position_or_len p xs) (length xs) ≡ b
        → k < position_or_len p xs
    before true is = absurd (is_none (position_or_len p xs) (rw is refl) none)
    before false is = let past = ltb-false _ _ is in omega (arith, past, within)

-- so many are due, from the first on
abbrev AreDue : (moment count : ℕ) → List Raise → Raise → Type 0
AreDue moment count events d = (k : ℕ) → k < count → (get_or events k d).at ≤ moment

-- the first ones are due, and none of the others
due_first : (moment count : ℕ) (events : List Raise) (d : Raise)
    → AreDue moment count events d → AreLater moment (drop count events)
    → due_events moment events ≡ take count events
due_first moment zero events d come later = later_due moment events later
due_first moment (suc count) [] d come later = refl
due_first moment (suc count) (event ∷ rest) d come later =
    first_due moment event rest (come 0 (omega arith))
    ∙ ap (λ due. event ∷ due)
    (due_first moment count rest d (λ k below. come (suc k) (omega (arith, below))) later)

-- none of the others is due where the first of them is not
later_from : (moment count : ℕ) (events : List Raise) (d : Raise) → CanCome events
    → (count < length events → moment < (get_or events count d).at)
    → AreLater moment (drop count events)
later_from moment zero [] d come first = All-nil (λ (e : Raise). moment < e.at)
later_from moment zero (event ∷ rest) d come first =
    all_later moment event rest come (first (omega arith))
later_from moment (suc count) [] d come first = All-nil (λ (e : Raise). moment < e.at)
later_from moment (suc count) (event ∷ rest) d come first =
    later_from moment count rest d (rest_comes event rest come)
    (λ within. first (omega (arith, within)))

-- whether an event is later than a moment
abbrev is_later : ℕ → Raise → Bool
is_later moment event = nat_lt moment event.at

-- one that is not has come
not_later : (moment : ℕ) (event : Raise) → is_later moment event ≡ false → event.at ≤ moment
not_later moment event is = grind (arith, nat_tests)

-- the event at a place stands before those behind it
pub event_at : (events : List Raise) (i : ℕ) (none : Raise) → i < length events
    → drop i events ≡ get_or events i none ∷ drop (i + 1) events
event_at events i none within = grind (arith, common_steps)

-- those before the first that is later are due, and no others
pub due_until : (moment count : ℕ) (events : List Raise) (d : Raise) → CanCome events
    → position (is_later moment) events ≡ Some count → due_events moment events ≡ take count events
due_until moment count events d come is =
    let found = position-Some (is_later moment) events count d is in
    due_first moment count events d
    (λ k below. not_later moment (get_or events k d) (found.2 k below))
    (later_from moment count events d come
    (λ within. let later = found.1 in grind (arith, nat_tests)))

-- where none is later, all are due
pub due_all : (moment : ℕ) (events : List Raise) (d : Raise)
    → position (is_later moment) events ≡ None → due_events moment events ≡ events
due_all moment events d none =
    due_first moment (length events) events d
    (λ k below. not_later moment (get_or events k d)
    (none_found (is_later moment) events d none k below))
    (subst (AreLater moment) (sym (drop_all (length events) events (omega arith)))
    (All-nil (λ (e : Raise). moment < e.at)))
    ∙ take_all (length events) events (omega arith)
