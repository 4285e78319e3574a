-- The script's events, as they are taken one by one in the order of their ticks.
use Rattle.std.proofs.Common.{◌≡◌, ℕ, zero, suc, ◌+◌, ◌^◌, ◌<◌, ◌≤◌, min, Bool, true, false, cond, not, Some, List, [], ◌∷◌, length, drop, refl, ap, sym, ◌∙◌, subst, arith, inl, inr}
use Rattle.std.specs.Prelude.{◌⊎◌, MatchOption, All, Contains, fold}
use Rattle.std.specs.List.{slice_get, list_any}
use Rattle.std.proofs.lemmas.Bool.{cases_lt}
use Rattle.std.proofs.lemmas.Bool.Decides.{nat_tests}
use Rattle.std.proofs.Math.Seq.{drop-cons}
use Rattle.std.proofs.lemmas.Option.{get_or_from_slice_get, slice_get_within}
use Rattle.std.proofs.lemmas.List.Elements.{All-nil, All-cons, All-contains, All-head, All-tail, All-filter, Contains-append_right}
use Rattle.std.proofs.lemmas.List.Filters.{length-filter_both}
use Rattle.std.proofs.lemmas.List.Kept.{AllPairs-filter}
use Rattle.iop_base.proofs.Lists.{filter-none_passes, filter-none_fails}
use Rattle.iop_base.proofs.Searching.{AllPairs-head, AllPairs-tail}
use Rattle.iop_script.specs.declared.raise.Raise.{Raise}
use Rattle.iop_machine.specs.Events.{CanCome, is_due, due_events, left_events, earlier_with, next_tick, events_of, TakesDue}
use Rattle.iop_machine.specs.declared.events.Events.TheInside.{Inside}

-- events none of which is due at a moment
abbrev pub AreLater : ℕ → List Raise → Type 0
AreLater moment events = All (λ e. moment < e.at) events

-- none of them is due
not_due : (moment : ℕ) (event : Raise) → moment < event.at → is_due moment event ≡ false
not_due moment event later = grind (arith, nat_tests)

-- and an event that is due passes the test
due : (moment : ℕ) (event : Raise) → event.at ≤ moment → is_due moment event ≡ true
due moment event come = grind (arith, nat_tests)

-- no event is due
none_is_due : (moment : ℕ) (events : List Raise) → AreLater moment events
    → list_any (is_due moment) events ≡ false
none_is_due moment [] later = refl
none_is_due moment (event ∷ rest) later =
    let first = not_due moment event (All-head (λ (e : Raise). moment < e.at) event rest later) in
    rw first (none_is_due moment rest (All-tail (λ (e : Raise). moment < e.at) event rest later))

-- so none is taken
pub later_due : (moment : ℕ) (events : List Raise) → AreLater moment events
    → due_events moment events ≡ []
later_due moment events later =
    filter-none_passes (is_due moment) events (none_is_due moment events later)

-- and all of them stay
pub later_left : (moment : ℕ) (events : List Raise) → AreLater moment events
    → left_events moment events ≡ events
later_left moment events later =
    filter-none_fails (is_due moment) events (none_is_due moment events later)

-- by whether the first is due, where those that are left of the rest are later
left_by : (moment : ℕ) (event : Raise) (left : List Raise) (b : Bool)
    → is_due moment event ≡ b → AreLater moment left
    → AreLater moment (cond (not b) (event ∷ left) left)
left_by moment event left true is later = later
left_by moment event left false is later =
    let first : moment < event.at = grind (arith, nat_tests) in
    All-cons (λ (e : Raise). moment < e.at) event left first later

-- those that are left are later
pub left_later : (moment : ℕ) (events : List Raise) → AreLater moment (left_events moment events)
left_later moment [] = All-nil (λ (e : Raise). moment < e.at)
left_later moment (event ∷ rest) =
    left_by moment event (left_events moment rest) (is_due moment event) refl
    (left_later moment rest)

-- by whether the first is due
none_due_by : (moment : ℕ) (event : Raise) (rest come : List Raise) (b : Bool)
    → is_due moment event ≡ b → cond b (event ∷ come) come ≡ []
    → (come ≡ [] → AreLater moment rest)
    → AreLater moment (event ∷ rest)
none_due_by moment event rest come true is none later = absurd (cc none)
none_due_by moment event rest come false is none later =
    let first : moment < event.at = grind (arith, nat_tests) in
    All-cons (λ (e : Raise). moment < e.at) event rest first (later none)

-- where none is due all events are later
pub none_due : (moment : ℕ) (events : List Raise) → due_events moment events ≡ []
    → AreLater moment events
none_due moment [] none = All-nil (λ (e : Raise). moment < e.at)
none_due moment (event ∷ rest) none =
    none_due_by moment event rest (due_events moment rest) (is_due moment event) refl none
    (none_due moment rest)

-- an event that is due comes first
pub first_due : (moment : ℕ) (event : Raise) (rest : List Raise) → event.at ≤ moment
    → due_events moment (event ∷ rest) ≡ event ∷ due_events moment rest
first_due moment event rest come = rw (due moment event come) refl

-- it is not among those that are left
first_left : (moment : ℕ) (event : Raise) (rest : List Raise) → event.at ≤ moment
    → left_events moment (event ∷ rest) ≡ left_events moment rest
first_left moment event rest come = rw (due moment event come) refl

-- where the first is later, all are
pub all_later : (moment : ℕ) (event : Raise) (rest : List Raise) → CanCome (event ∷ rest)
    → moment < event.at → AreLater moment (event ∷ rest)
all_later moment event rest come later =
    let behind = AllPairs-head (λ (x y : Raise). x.at ≤ y.at) event rest come.order in
    All-cons (λ (e : Raise). moment < e.at) event rest later
    (λ k d below. let other = behind k d below in omega arith)

-- events of which the first was taken can come
pub rest_comes : (event : Raise) (rest : List Raise) → CanCome (event ∷ rest) → CanCome rest
rest_comes event rest come = record {
  order = AllPairs-tail (λ (x y : Raise). x.at ≤ y.at) event rest come.order;
  ticks = All-tail (λ (e : Raise). e.at < 2 ^ 63) event rest come.ticks;
  lines = All-tail (λ (e : Raise). e.line < 64) event rest come.lines;
}

-- so can those behind the first ones
pub drop_comes : (i : ℕ) (events : List Raise) → CanCome events → CanCome (drop i events)
drop_comes zero events come = come
drop_comes (suc i) [] come = come
drop_comes (suc i) (event ∷ rest) come = drop_comes i rest (rest_comes event rest come)

-- and those that are left
pub left_comes : (moment : ℕ) (events : List Raise) → CanCome events
    → CanCome (left_events moment events)
left_comes moment events come =
    let is_left = λ (e : Raise). not (is_due moment e) in
    record {
      order = AllPairs-filter (λ (x y : Raise). x.at ≤ y.at) is_left events come.order;
      ticks = All-filter is_left (λ (e : Raise). e.at < 2 ^ 63) events come.ticks;
      lines = All-filter is_left (λ (e : Raise). e.line < 64) events come.lines;
    }

-- by whether the first is due
fewer_by : (moment : ℕ) (event : Raise) (rest left : List Raise) (b : Bool)
    → is_due moment event ≡ b → length left ≤ length rest
    → AreLater moment rest ⊎ (length left < length rest)
    → AreLater moment (event ∷ rest)
    ⊎ (length (cond (not b) (event ∷ left) left) < length (event ∷ rest))
fewer_by moment event rest left true is few h = inr (omega (arith, few))
fewer_by moment event rest left false is few (inl later) =
    let first : moment < event.at = grind (arith, nat_tests) in
    inl (All-cons (λ (e : Raise). moment < e.at) event rest first later)
fewer_by moment event rest left false is few (inr fewer) = inr (omega (arith, fewer))

-- they are no more than they were
pub left_few : (moment : ℕ) (events : List Raise)
    → length (left_events moment events) ≤ length events
left_few moment events =
    let all = length-filter_both (is_due moment) (λ e. not (is_due moment e)) (λ e. refl) events in
    omega (arith, all)

-- and fewer, unless all are later
pub left_fewer : (moment : ℕ) (events : List Raise)
    → AreLater moment events ⊎ (length (left_events moment events) < length events)
left_fewer moment [] = inl (All-nil (λ (e : Raise). moment < e.at))
left_fewer moment (event ∷ rest) =
    fewer_by moment event rest (left_events moment rest) (is_due moment event) refl
    (left_few moment rest) (left_fewer moment rest)

-- an event has this tick
abbrev pub HasTick : List Raise → ℕ → Type 0
HasTick events tick = (event : Raise) × Contains events event × (event.at ≡ tick)

-- one of more events has it
behind_has : (first : Raise) (events : List Raise) (tick : ℕ) → HasTick events tick
    → HasTick (first ∷ events) tick
behind_has first events tick (event, has, is) =
    (event, Contains-append_right (first ∷ []) events event has, is)

-- the least tick of a moment and of some events
record IsEarliest (first : ℕ) (events : List Raise) (tick : ℕ) : Type 0 where
  is : fold earlier_with (Some first) events ≡ Some tick
  has : (first ≡ tick) ⊎ HasTick events tick
  least : tick ≤ first
  all : All (λ e. tick ≤ e.at) events

-- it is found from the first event on
earliest : (first : ℕ) (events : List Raise) → (tick : ℕ) × IsEarliest first events tick
earliest first [] = (
  first,
  record {
    is = refl;
    has = inl refl;
    least = omega arith;
    all = All-nil (λ (e : Raise). first ≤ e.at);
  },
)
earliest first (event ∷ rest) =
    let (tick, h) = earliest (min first event.at) rest in (
      tick,
      record {
        is = h.is;
        has = elim h.has [
          | inl same ↦ from (cases_lt first event.at) same
          | inr has ↦ inr (behind_has event rest tick has)
        ];
        least = omega (arith, h.least);
        all = All-cons (λ (e : Raise). tick ≤ e.at) event rest (omega (arith, h.least)) h.all;
      },
    )
  where
    from : {tick : ℕ} → (first < event.at) ⊎ (event.at ≤ first) → min first event.at ≡ tick
        → (first ≡ tick) ⊎ HasTick (event ∷ rest) tick
    from (inl before) same = inl (omega (arith, before, same))
    from (inr behind) same = inr (event, (0, omega arith, refl), omega (arith, behind, same))

-- an event has it, and none an earlier one
pub record IsNextTick (events : List Raise) (tick : ℕ) : Type 0 where
  pub has : HasTick events tick
  pub all : All (λ e. tick ≤ e.at) events

-- so what holds of all ticks holds of it
pub of_next : (P : ℕ → Type 0) {events : List Raise} {tick : ℕ} → IsNextTick events tick
    → All (λ e. P e.at) events → P tick
of_next P {events} h all =
    subst P h.has.2 (All-contains (λ (e : Raise). P e.at) events h.has.0 all h.has.1)

-- the next tick is such a one
pub next_tick_is : (events : List Raise)
    → MatchOption (next_tick events) (events ≡ []) (IsNextTick events)
next_tick_is [] = refl
next_tick_is (event ∷ rest) =
    let (tick, h) = earliest event.at rest in
    subst (λ o. MatchOption o (event ∷ rest ≡ []) (IsNextTick (event ∷ rest))) (sym h.is)
    (record {
      has = elim h.has [
        | inl same ↦ (event, (0, omega arith, refl), same)
        | inr has ↦ behind_has event rest tick has
      ];
      all = All-cons (λ (e : Raise). tick ≤ e.at) event rest h.least h.all;
    })

-- in the order of their ticks it is that of the first
stays_first : (first : ℕ) (events : List Raise) → All (λ e. first ≤ e.at) events
    → fold earlier_with (Some first) events ≡ Some first
stays_first first [] behind = refl
stays_first first (event ∷ rest) behind =
    let one = All-head (λ (e : Raise). first ≤ e.at) event rest behind in
    let same : min first event.at ≡ first = omega (arith, one) in
    ap (λ t. fold earlier_with (Some t) rest) same
    ∙ stays_first first rest (All-tail (λ (e : Raise). first ≤ e.at) event rest behind)

-- so the next tick is
next_of_first : (event : Raise) (rest : List Raise) → CanCome (event ∷ rest)
    → next_tick (event ∷ rest) ≡ Some event.at
next_of_first event rest come =
    stays_first event.at rest (AllPairs-head (λ (x y : Raise). x.at ≤ y.at) event rest come.order)

module _ (e : Inside) (event : Raise) (at : slice_get e.events.items e.taken ≡ Some event) where
  -- those that are left once the next one was taken
  abbrev rest : List Raise
  rest = events_of (record e { taken = e.taken + 1 })

  -- the next one is the first of those that were not taken yet
  first_event : events_of e ≡ event ∷ rest
  first_event =
      let within = slice_get_within e.events.items e.taken event at in
      let one : e.taken + 1 ≡ suc e.taken = omega arith in
      drop-cons e.events.items e.taken event within
      ∙ ap (λ x. x ∷ drop (suc e.taken) e.events.items)
      (get_or_from_slice_get e.events.items e.taken event event at)
      ∙ ap (λ n. event ∷ drop n e.events.items) (sym one)

  module _ (come : CanCome (events_of e)) where
    -- they can come, the first one and the rest
    come_first : CanCome (event ∷ rest)
    come_first = subst CanCome first_event come

    -- it comes before 2^63
    pub next_below : event.at < 2 ^ 63
    next_below = All-head (λ (x : Raise). x.at < 2 ^ 63) event rest come_first.ticks

    -- its tick is the next one
    pub next_is_first : next_tick (events_of e) ≡ Some event.at
    next_is_first = ap next_tick first_event ∙ next_of_first event rest come_first

    -- those behind it can come too
    pub behind_comes : CanCome rest
    behind_comes = rest_comes event rest come_first

    -- where it is not due, none is
    pub not_taken : (moment : ℕ) → moment < event.at → due_events moment (events_of e) ≡ []
    not_taken moment later =
        ap (due_events moment) first_event
        ∙ later_due moment (event ∷ rest) (all_later moment event rest come_first later)

    -- where it is, it was taken
    pub one_taken : (moment : ℕ) → event.at ≤ moment
        → TakesDue (Some event) moment (events_of e) rest
    one_taken moment due = (
      All-head (λ (x : Raise). x.line < 64) event rest come_first.lines,
      ap (due_events moment) first_event ∙ first_due moment event rest due,
      ap (left_events moment) first_event ∙ first_left moment event rest due,
      let long = ap length first_event in omega (arith, long),
    )
