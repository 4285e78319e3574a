-- What is taken is what is due, and a handler's result is for its own alarm.
use Rattle.std.proofs.Common.{◌≡◌, ◌≢◌, ℕ, ◌<◌, ◌≤◌, ◌⊎◌, inl, inr, ◌==◌, nat_lt, Bool, true, false, cond, not, Option, Some, None, option_and_then, MatchOption, List, [], ◌∷◌, filter, find, length, get_or, suc, zero, refl, ap, ◌∙◌, sym, subst, arith}
use Rattle.std.specs.List.{list_any, All, AllPairs, Any}
use Rattle.std.proofs.lemmas.Bool.{cases_lt}
use Rattle.std.proofs.lemmas.Bool.Decides.{nat_tests}
use Rattle.std.proofs.lemmas.List.{get_or_default}
use Rattle.std.proofs.lemmas.List.Elements.{All-filter, All-weaker, All-push, filter_passes}
use Rattle.std.proofs.lemmas.List.Folds.{list_any_at, list_any_none, map_fixed}
use Rattle.iop_base.proofs.Lists.{find-none, filter-none_fails}
use Rattle.iop_time.specs.Timers.{Timers, AreTimers, AlarmsDiffer, DelaysDiffer, is_alarm_of, sets_alarm, cancels, sets_again, removes, later}
use Rattle.iop_time.specs.Turns.{due}
use Rattle.iop_time.specs.Taking.{timer_of, takes_due}
use Rattle.iop_time.specs.Laws.{NoneHasCome, IsNext, number_of, moment_of}
use Rattle.iop_time.specs.declared.alarm.Alarm.{Alarm}
use Rattle.iop_time.specs.declared.delay.Delay.{Delay}
use Rattle.iop_time.specs.declared.due.Due.{Due}
use Rattle.iop_time.specs.declared.clock.TheConstants.{MOST_ALARMS}
use Rattle.iop_time.proofs.Nexts.{due_is_next}

same_number : (n : ℕ) → (n == n) ≡ true
same_number n = grind (arith, nat_tests)

other_number : (m n : ℕ) → m ≢ n → (m == n) ≡ false
other_number m n differ = grind (arith, nat_tests)

-- the one of a number is found where numbers rise
module _ {X : Type 0} (number : X → ℕ) (R : X → X → Type 0)
    (rises : (x y : X) → R x y → number x < number y) where
  found_by : (x y : X) (ys : List X) (b : Bool) → b ≡ true → y ≡ x
      → cond b (Some y) (find (λ z. number z == number x) ys) ≡ Some x
  found_by x y ys true e same = ap Some same
  found_by x y ys false e same = cc

  passed_by : (x y : X) (ys : List X) (b : Bool) → b ≡ false
      → find (λ z. number z == number x) ys ≡ Some x
      → cond b (Some y) (find (λ z. number z == number x) ys) ≡ Some x
  passed_by x y ys true e rest = cc
  passed_by x y ys false e rest = rest

  find-only : (xs : List X) (k : ℕ) (x : X) → AllPairs R xs → k < length xs → get_or xs k x ≡ x
      → find (λ z. number z == number x) xs ≡ Some x
  find-only [] k x pairs below at = absurd (omega arith)
  find-only (y ∷ ys) zero x pairs below at =
      found_by x y ys (number y == number x)
      (ap (λ z. number z == number x) at ∙ same_number (number x)) at
  find-only (y ∷ ys) (suc k) x pairs below at =
      let less : number y < number x =
      rises y x (subst (R y) at (pairs zero (suc k) x (omega arith) below)) in
      passed_by x y ys (number y == number x)
      (other_number (number y) (number x) (λ e. omega arith))
      (find-only ys k x (λ i j d before short. pairs (suc i) (suc j) d (omega arith) (omega arith))
      (omega arith) at)

module _ (timers : Timers) (h : AreTimers timers) (t : ℕ) where
  abbrev IsNextDue : Due → Type 0
  IsNextDue taken = IsNext timers t (moment_of taken) (number_of taken)

  the_alarm : (moment number : ℕ) → IsNext timers t moment number
      → Any (λ alarm. (alarm.moment ≡ moment) × (alarm.number ≡ number)) timers.alarms
      → MatchOption (timer_of timers number) (NoneHasCome timers t) IsNextDue
  the_alarm moment number next (k, alarm, below, at, has) =
      let found = find-only (λ a. a.number) AlarmsDiffer (λ x y pair. pair.0) timers.alarms k alarm
      h.alarms_differ below at in
      let e = ap (λ n. find (λ a. a.number == n) timers.alarms) (sym has.1) ∙ found in
      rw e (rw (has.0, has.1) next)

  no_alarm : (number : ℕ) (k : ℕ) (delay : Delay) → k < length timers.delays
      → get_or timers.delays k delay ≡ delay → delay.number ≡ number
      → find (λ alarm. alarm.number == number) timers.alarms ≡ None
  no_alarm number k delay below at has =
      find-none (λ alarm. alarm.number == number) timers.alarms
      (λ i d short. other_number (get_or timers.alarms i d).number number
      (λ e. h.apart i d short k delay below
      (e ∙ sym has ∙ sym (ap (λ x. x.number) at))))

  the_delay : (moment number : ℕ) → IsNext timers t moment number
      → Any (λ delay. (delay.moment ≡ moment) × (delay.number ≡ number)) timers.delays
      → MatchOption (timer_of timers number) (NoneHasCome timers t) IsNextDue
  the_delay moment number next (k, delay, below, at, has) =
      let found = find-only (λ d. d.number) DelaysDiffer (λ x y pair. pair.0) timers.delays k delay
      h.delays_differ below at in
      let e = ap (λ n. find (λ d. d.number == n) timers.delays) (sym has.1) ∙ found in
      rw (no_alarm number k delay below at has.1, e) (rw (has.0, has.1) next)

  taken_by : (o : Option ℕ)
      → MatchOption o (NoneHasCome timers t) (λ n. (m : ℕ) × IsNext timers t m n)
      → MatchOption (option_and_then (timer_of timers) o) (NoneHasCome timers t) IsNextDue
  taken_by None none = none
  taken_by (Some number) (moment, next) =
      elim next.come.0 [
        | inl alarm ↦ the_alarm moment number next alarm
        | inr delay ↦ the_delay moment number next delay
      ]

  pub taken_is_next : MatchOption (takes_due timers t).0 (NoneHasCome timers t) IsNextDue
  taken_is_next = taken_by (due timers t) (due_is_next timers t)

-- no alarm of a list has the number
abbrev pub NoneHas : ℕ → List Alarm → Type 0
NoneHas number alarms = All (λ alarm. (alarm.number == number) ≡ false) alarms

stays_by : (number ticks : ℕ) (alarm : Alarm) → (alarm.number == number) ≡ false
    → later number ticks alarm ≡ alarm
stays_by number ticks alarm other = rw other refl

pub again_stays : (timers : Timers) (number ticks : ℕ) → NoneHas number timers.alarms
    → sets_again timers number ticks ≡ timers
again_stays timers number ticks none =
    ap (λ alarms. record timers { alarms = alarms })
    (map_fixed (later number ticks) timers.alarms
    (All-weaker (λ alarm. (alarm.number == number) ≡ false)
    (λ alarm. later number ticks alarm ≡ alarm)
    (stays_by number ticks) timers.alarms none))

pub removes_stays : (timers : Timers) (number : ℕ) → NoneHas number timers.alarms
    → removes timers number ≡ timers
removes_stays timers number none =
    ap (λ alarms. record timers { alarms = alarms })
    (filter-none_fails (λ alarm. alarm.number == number) timers.alarms
    (list_any_none (λ alarm. alarm.number == number) timers.alarms none))

module _ (timers : Timers) (h : AreTimers timers) (alarm : Alarm) (k : ℕ)
    (below : k < length timers.alarms) (at : get_or timers.alarms k alarm ≡ alarm) where
  abbrev is_its : Alarm → Bool
  is_its = is_alarm_of alarm.handler alarm.arg

  abbrev is_numbered : Alarm → Bool
  is_numbered other = other.number == alarm.number

  -- another alarm that is not of its handler and argument has another number
  abbrev Differs : Alarm → Type 0
  Differs other = is_its other ≡ false → is_numbered other ≡ false

  itself : is_its alarm ≡ true
  itself = grind (arith, nat_tests)

  differs_at : (i : ℕ) (d : Alarm) → i < length timers.alarms → (i < k) ⊎ (k ≤ i)
      → (k < i) ⊎ (i ≤ k) → Differs (get_or timers.alarms i d)
  differs_at i d short (inl before) any other =
      let pair = (h.alarms_differ i k d before below).0 in
      let same = ap (λ a. a.number) (get_or_default timers.alarms k d alarm below ∙ at) in
      other_number _ _ (λ e. omega arith)
  differs_at i d short (inr no_before) (inl after) other =
      let pair = (h.alarms_differ k i d after short).0 in
      let same = ap (λ a. a.number) (get_or_default timers.alarms k d alarm below ∙ at) in
      other_number _ _ (λ e. omega arith)
  differs_at i d short (inr no_before) (inr no_after) other =
      let place : i ≡ k = omega arith in
      let same = ap (λ j. get_or timers.alarms j d) place
      ∙ get_or_default timers.alarms k d alarm below ∙ at in
      let no = sym (ap is_its same) ∙ other in
      let yes = itself in
      cc

  others_differ : All Differs timers.alarms
  others_differ i d short = differs_at i d short (cases_lt i k) (cases_lt k i)

  stands : list_any is_its timers.alarms ≡ true
  stands = list_any_at is_its timers.alarms k alarm below (ap is_its at ∙ itself)

  abbrev rest : List Alarm
  rest = filter (λ other. not (is_its other)) timers.alarms

  none_left : NoneHas alarm.number rest
  none_left i d short =
      let passes = filter_passes (λ other. not (is_its other)) timers.alarms i d short in
      let differs = All-filter (λ other. not (is_its other)) Differs timers.alarms others_differ i d
      short in
      differs (grind (arith, nat_tests))

  abbrev cancelled : Timers
  cancelled = record timers { alarms = rest }

  cancelled_is : (cancels timers alarm.handler alarm.arg).1 ≡ cancelled
  cancelled_is = rw stands refl

  given : alarm.number < timers.next
  given = let e = ap (λ a. a.number) at in let all = (h.alarms k alarm below).1 in omega arith

  set_by : (moment gp : ℕ) (b c : Bool) → list_any is_its rest ≡ b
      → nat_lt (length rest) MOST_ALARMS ≡ c
      → NoneHas alarm.number (sets_alarm cancelled moment alarm.handler alarm.arg gp).1.alarms
  set_by moment gp true c found room = rw found none_left
  set_by moment gp false false none full = rw (none, full) none_left
  set_by moment gp false true none room =
      rw (none, room)
      (All-push (λ other. is_numbered other ≡ false) rest _ none_left
      (let below = given in other_number timers.next alarm.number (λ e. omega arith)))

  pub results_go : (moment gp ticks : ℕ)
      → let cancelled = (cancels timers alarm.handler alarm.arg).1 in
      let again = (sets_alarm cancelled moment alarm.handler alarm.arg gp).1 in
      (sets_again cancelled alarm.number ticks ≡ cancelled)
      × (sets_again again alarm.number ticks ≡ again)
      × (removes again alarm.number ≡ again)
  results_go moment gp ticks =
      rw cancelled_is (
        again_stays cancelled alarm.number ticks none_left,
        again_stays (sets_alarm cancelled moment alarm.handler alarm.arg gp).1 alarm.number ticks
            (set_by moment gp _ _ refl refl),
        removes_stays (sets_alarm cancelled moment alarm.handler alarm.arg gp).1 alarm.number
            (set_by moment gp _ _ refl refl),
      )
