-- What is due, and the next moment, said of alarms and delays.
use Rattle.std.proofs.Common.{◌≡◌, ℕ, ◌<◌, ◌≤◌, ◌⊎◌, inl, inr, Bool, true, false, cond, nat_le, Option, Some, None, option_map, MatchOption, List, [], ◌∷◌, map, length, get_or, suc, zero, refl, ap, ◌∙◌, arith}
use Rattle.std.specs.List.{All, Any, Contains}
use Rattle.std.proofs.lemmas.Bool.{leb-false}
use Rattle.std.proofs.lemmas.Bool.Decides.{nat_tests}
use Rattle.std.proofs.lemmas.List.{get_or-map, length-map}
use Rattle.std.proofs.lemmas.List.Elements.{All-contains, Contains-append_left, Contains-append_right, Contains-append_cases}
use Rattle.iop_time.specs.Timers.{Timers}
use Rattle.iop_time.specs.Turns.{comes, first_turn, turns, turn_of_alarm, turn_of_delay, number_if_due, due, next_moment}
use Rattle.iop_time.specs.Laws.{Stands, NoneHasCome, IsNext, IsNextMoment}
use Rattle.iop_time.specs.declared.turn.Turn.{Turn}
use Rattle.iop_time.specs.declared.ticks.TheConstants.{NEVER}
use Rattle.iop_time.proofs.Comparing.{in_order}
use Rattle.iop_time.proofs.Least.{NeverComes, IsBehind, IsLeast, IsFirst, first_is_least}

abbrev turn_at : (moment number : ℕ) → Turn
turn_at moment number = record { moment = moment; number = number }

module _ {X : Type 0} (turn : X → Turn) where
  abbrev Has : (moment number : ℕ) → X → Type 0
  Has moment number x = ((turn x).moment ≡ moment) × ((turn x).number ≡ number)

  -- the turn of one that stands
  turn_stands : (xs : List X) (moment number : ℕ) → Any (Has moment number) xs
      → Contains (map turn xs) (turn_at moment number)
  turn_stands xs moment number (k, x, below, at, has) =
      let same = ap (λ m. turn_at m (turn x).number) has.0 ∙ ap (turn_at moment) has.1 in (
        k,
        omega (arith, length-map xs turn),
        get_or-map turn xs k x (turn_at moment number) below ∙ ap turn at ∙ same,
      )

  -- and whose turn it is
  stands_behind : (y : X) (ys : List X) (t : Turn) → Any (Has t.moment t.number) ys
      → Any (Has t.moment t.number) (y ∷ ys)
  stands_behind y ys t (k, x, below, at, has) = (suc k, x, omega arith, at, has)

  of_turn_at : (xs : List X) (t : Turn) (k : ℕ) → k < length (map turn xs)
      → get_or (map turn xs) k t ≡ t → Any (Has t.moment t.number) xs
  of_turn_at [] t k below at = absurd (omega arith)
  of_turn_at (x ∷ xs) t zero below at =
      (zero, x, omega arith, refl, (ap (λ u. u.moment) at, ap (λ u. u.number) at))
  of_turn_at (x ∷ xs) t (suc k) below at =
      stands_behind x xs t (of_turn_at xs t k (omega arith) at)

  of_turn : (xs : List X) (t : Turn) → Contains (map turn xs) t → Any (Has t.moment t.number) xs
  of_turn xs t (k, below, at) = of_turn_at xs t k below at

module _ (timers : Timers) where
  abbrev all : List Turn
  all = turns timers.alarms timers.delays

  turn_of : (moment number : ℕ) → Stands timers moment number → Contains all (turn_at moment number)
  turn_of moment number (inl alarm) =
      Contains-append_left (map turn_of_alarm timers.alarms) (map turn_of_delay timers.delays)
      (turn_at moment number) (turn_stands turn_of_alarm timers.alarms moment number alarm)
  turn_of moment number (inr delay) =
      Contains-append_right (map turn_of_alarm timers.alarms) (map turn_of_delay timers.delays)
      (turn_at moment number) (turn_stands turn_of_delay timers.delays moment number delay)

  either : (t : Turn)
      → Contains (map turn_of_alarm timers.alarms) t ⊎ Contains (map turn_of_delay timers.delays) t
      → Stands timers t.moment t.number
  either t (inl alarm) = inl (of_turn turn_of_alarm timers.alarms t alarm)
  either t (inr delay) = inr (of_turn turn_of_delay timers.delays t delay)

  stands_of : (t : Turn) → Contains all t → Stands timers t.moment t.number
  stands_of t in' =
      either t (Contains-append_cases (map turn_of_alarm timers.alarms)
      (map turn_of_delay timers.delays) t in')

  none_comes : All NeverComes all → (moment number : ℕ) → Stands timers moment number
      → NEVER ≤ moment
  none_comes none moment number stands =
      let never = All-contains NeverComes all (turn_at moment number) none
      (turn_of moment number stands) in
      grind (arith, nat_tests)

  -- what stands does not come before the least
  not_before : (least : Turn) → IsLeast all least → (other : Turn) (b : Bool) → comes other ≡ b
      → Contains all other
      → (least.moment < other.moment)
      ⊎ ((least.moment ≡ other.moment) × (least.number ≤ other.number))
  not_before least h other true come stands =
      in_order least other (All-contains (IsBehind least) all other h.least stands come)
  not_before least h other false never stands =
      let come = h.comes in inl (grind (arith, nat_tests))

  is_first : (least : Turn) → IsLeast all least → (moment number : ℕ)
      → Stands timers moment number
      → (least.moment < moment) ⊎ ((least.moment ≡ moment) × (least.number ≤ number))
  is_first least h moment number stands =
      not_before least h (turn_at moment number) (comes (turn_at moment number)) refl
      (turn_of moment number stands)

  least_moment : (least : Turn) → IsLeast all least → (moment number : ℕ)
      → Stands timers moment number → least.moment ≤ moment
  least_moment least h moment number stands =
      elim (is_first least h moment number stands) [
        | inl earlier ↦ omega arith
        | inr same ↦ omega arith
      ]

  due_by : (turn : Turn) → IsLeast all turn → (t : ℕ) (b : Bool) → nat_le turn.moment t ≡ b
      → MatchOption (cond b (Some turn.number) None) (NoneHasCome timers t)
      (λ number. (moment : ℕ) × IsNext timers t moment number)
  due_by turn h t true here =
      let come = h.comes in (
        turn.moment,
        record {
          come = (stands_of turn h.stands, grind (arith, nat_tests), grind (arith, nat_tests));
          first = λ m n other. is_first turn h m n other.0;
        },
      )
  due_by turn h t false later =
      λ m n other.
      let least = least_moment turn h m n other.0 in
      let by = other.1 in
      let after = leb-false turn.moment t later in
      omega arith

  due_of : (first : Option Turn) → IsFirst all first → (t : ℕ)
      → MatchOption (number_if_due t first) (NoneHasCome timers t)
      (λ number. (moment : ℕ) × IsNext timers t moment number)
  due_of None none t =
      λ m n other.
      let never = none_comes none m n other.0 in
      let come = other.2 in
      omega arith
  due_of (Some turn) h t = due_by turn h t (nat_le turn.moment t) refl

  pub due_is_next : (t : ℕ)
      → MatchOption (due timers t) (NoneHasCome timers t)
      (λ number. (moment : ℕ) × IsNext timers t moment number)
  due_is_next t = due_of (first_turn timers.alarms timers.delays) (first_is_least all) t

  moment_of_first : (first : Option Turn) → IsFirst all first
      → MatchOption (option_map (λ turn. turn.moment) first)
      ((m n : ℕ) → Stands timers m n → NEVER ≤ m) (IsNextMoment timers)
  moment_of_first None none = none_comes none
  moment_of_first (Some turn) h =
      let come = h.comes in
      record {
        number = turn.number;
        stands = stands_of turn h.stands;
        comes = grind (arith, nat_tests);
        least = least_moment turn h;
      }

  pub next_moment_is_least : MatchOption (next_moment timers)
      ((m n : ℕ) → Stands timers m n → NEVER ≤ m) (IsNextMoment timers)
  next_moment_is_least =
      moment_of_first (first_turn timers.alarms timers.delays) (first_is_least all)
