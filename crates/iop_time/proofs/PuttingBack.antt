-- What is put back keeps what holds of every clock, and all that stands comes back.
use Rattle.std.proofs.Common.{◌≡◌, ◌≢◌, ℕ, ◌+◌, ◌<◌, ◌≤◌, ◌^◌, ◌&&◌, Bool, true, not, max, Some, List, [], ◌∷◌, ◌++◌, length, get_or, append-nil, append_assoc, refl, ap, ◌∙◌, sym, subst, arith}
use Rattle.std.specs.List.{All, AllPairs}
use Rattle.std.proofs.lemmas.Bool.{ltb-true, leb-true, eqb-false, lt-ltb, le-leb, ne_eqb, not-true, and_parts, and_from}
use Rattle.std.proofs.lemmas.Grind.{length_at_push}
use Rattle.std.proofs.lemmas.List.{get_or_append_left, length-append}
use Rattle.std.proofs.lemmas.List.Elements.{All-push, All-weaker}
use Rattle.std.proofs.lemmas.List.Folds.{list_any_none}
use Rattle.std.proofs.lemmas.List.Quantifiers.{all_pairs_push}
use Rattle.std.proofs.lemmas.List.Sums.{AllPass-from_list_all, list_all-from_AllPass}
use Rattle.std.proofs.Math.Seq.{get_or-append_seam}
use Rattle.iop_time.specs.Timers.{Timers, IsTimer, AlarmsDiffer, DelaysDiffer, AreTimers, is_alarm_of, is_delay_of}
use Rattle.iop_time.specs.Restoring.{may_be_timer, alarm_may_follow, delay_may_follow, with_last_alarm, with_last_delay, alarms_put_back, delays_put_back, all_put_back, TimersComeBack}
use Rattle.iop_time.specs.declared.alarm.Alarm.{Alarm}
use Rattle.iop_time.specs.declared.delay.Delay.{Delay}
use Rattle.iop_time.specs.declared.clock.TheConstants.{MOST_ALARMS, MOST_DELAYS}
use Rattle.iop_time.proofs.Keeping.{fails_at, IsAlarm, IsDelay, AreApart}

-- tests that hold at once
three : (a b c : Bool) → (a && b && c) ≡ true → (a ≡ true) × (b ≡ true) × (c ≡ true)
three a b c h =
    let (ab, c_is) = and_parts (a && b) c h in
    let (a_is, b_is) = and_parts a b ab in
    (a_is, b_is, c_is)

five : (a b c d e : Bool) → (a && b && c && d && e) ≡ true
    → (a ≡ true) × (b ≡ true) × (c ≡ true) × (d ≡ true) × (e ≡ true)
five a b c d e h =
    let (abcd, e_is) = and_parts (a && b && c && d) e h in
    let (abc, d_is) = and_parts (a && b && c) d abcd in
    let (a_is, b_is, c_is) = three a b c abc in
    (a_is, b_is, c_is, d_is, e_is)

all_three : (a b c : Bool) → a ≡ true → b ≡ true → c ≡ true → (a && b && c) ≡ true
all_three a b c a_is b_is c_is = and_from (a && b) c (and_from a b a_is b_is) c_is

all_five : (a b c d e : Bool) → a ≡ true → b ≡ true → c ≡ true → d ≡ true → e ≡ true
    → (a && b && c && d && e) ≡ true
all_five a b c d e a_is b_is c_is d_is e_is =
    and_from (a && b && c && d) e
    (and_from (a && b && c) d (all_three a b c a_is b_is c_is) d_is) e_is

-- a number that was given stays so
given : (next more number moment : ℕ) → IsTimer next number moment
    → IsTimer (max next more) number moment
given next more number moment h = (h.0, omega arith, h.2)

-- and so is the one that is put back
last : (next number moment : ℕ) → may_be_timer number moment ≡ true
    → IsTimer (max next (number + 1)) number moment
last next number moment may =
    let (some, small, comes) = three _ _ _ may in
    (ltb-true _ _ some, omega arith, leb-true _ _ comes)

pub last_alarm-keeps : (timers : Timers) (alarm : Alarm) → AreTimers timers
    → alarm_may_follow timers.alarms timers.delays alarm ≡ true
    → AreTimers (with_last_alarm timers alarm)
last_alarm-keeps timers alarm h may =
    let (timer, room, below_it, none, apart) = five _ _ _ _ _ may in
    let next = max timers.next (alarm.number + 1) in
    record {
      next = omega (arith, h.next);
      few_alarms = omega (arith, (length_at_push timers.alarms alarm).1, ltb-true _ _ room);
      few_delays = h.few_delays;
      alarms = All-push (IsAlarm next) timers.alarms alarm
          (All-weaker (IsAlarm timers.next) (IsAlarm next)
          (λ a. given timers.next (alarm.number + 1) a.number a.moment) timers.alarms h.alarms)
          (last timers.next alarm.number alarm.moment timer);
      delays = All-weaker (IsDelay timers.next) (IsDelay next)
          (λ d. given timers.next (alarm.number + 1) d.number d.moment) timers.delays h.delays;
      alarms_differ = all_pairs_push AlarmsDiffer timers.alarms alarm h.alarms_differ
          (λ k d below. (
            ltb-true _ _ (AllPass-from_list_all _ timers.alarms below_it k d below),
            fails_at (is_alarm_of alarm.handler alarm.arg) timers.alarms (not-true _ none) k d
                below,
          ));
      delays_differ = h.delays_differ;
      apart = All-push (AreApart timers.delays) timers.alarms alarm h.apart
          (λ k d below e.
          eqb-false _ _ (fails_at _ timers.delays (not-true _ apart) k d below) (sym e));
    }

pub last_delay-keeps : (timers : Timers) (delay : Delay) → AreTimers timers
    → delay_may_follow timers.alarms timers.delays delay ≡ true
    → AreTimers (with_last_delay timers delay)
last_delay-keeps timers delay h may =
    let (timer, room, below_it, none, apart) = five _ _ _ _ _ may in
    let next = max timers.next (delay.number + 1) in
    record {
      next = omega (arith, h.next);
      few_alarms = h.few_alarms;
      few_delays = omega (arith, (length_at_push timers.delays delay).1, ltb-true _ _ room);
      alarms = All-weaker (IsAlarm timers.next) (IsAlarm next)
          (λ a. given timers.next (delay.number + 1) a.number a.moment) timers.alarms h.alarms;
      delays = All-push (IsDelay next) timers.delays delay
          (All-weaker (IsDelay timers.next) (IsDelay next)
          (λ d. given timers.next (delay.number + 1) d.number d.moment) timers.delays h.delays)
          (last timers.next delay.number delay.moment timer);
      alarms_differ = h.alarms_differ;
      delays_differ = all_pairs_push DelaysDiffer timers.delays delay h.delays_differ
          (λ k d below. (
            ltb-true _ _ (AllPass-from_list_all _ timers.delays below_it k d below),
            fails_at (is_delay_of delay.thread) timers.delays (not-true _ none) k d below,
          ));
      apart = λ k d below.
          All-push (λ other. (get_or timers.alarms k d).number ≢ other.number) timers.delays delay
          (h.apart k d below)
          (eqb-false _ _ (fails_at _ timers.alarms (not-true _ apart) k d below));
    }

pub next-keeps : (timers : Timers) (number : ℕ) → AreTimers timers → timers.next ≤ number
    → AreTimers (record timers { next = number })
next-keeps timers number h rises =
    record {
      next = omega (arith, h.next, rises);
      few_alarms = h.few_alarms;
      few_delays = h.few_delays;
      alarms = All-weaker (IsAlarm timers.next) (IsAlarm number)
          (λ a timer. (timer.0, omega (arith, timer.1, rises), timer.2)) timers.alarms h.alarms;
      delays = All-weaker (IsDelay timers.next) (IsDelay number)
          (λ d timer. (timer.0, omega (arith, timer.1, rises), timer.2)) timers.delays h.delays;
      alarms_differ = h.alarms_differ;
      delays_differ = h.delays_differ;
      apart = h.apart;
    }

-- an item of a list, those in front of it and those behind it
module _ {X : Type 0} (xs : List X) (x : X) (rest : List X) where
  inside : length xs < length (xs ++ x ∷ rest)
  inside = omega (arith, length-append xs (x ∷ rest))

  -- what holds of all holds of it
  at_seam : (P : X → Type 0) → All P (xs ++ x ∷ rest) → P x
  at_seam P all = subst P (get_or-append_seam xs x rest x) (all (length xs) x inside)

  -- and so of each in front of it, with it
  before_seam : (R : X → X → Type 0) → AllPairs R (xs ++ x ∷ rest) → All (λ y. R y x) xs
  before_seam R pairs k d below =
      rw (← get_or_append_left xs (x ∷ rest) d k below)
      (subst (R (get_or (xs ++ x ∷ rest) k d)) (get_or-append_seam xs x rest d)
      (pairs k (length xs) d below inside))

  room : (most : ℕ) → length (xs ++ x ∷ rest) ≤ most → length xs < most
  room most few = let less = inside in omega arith

module _ (timers : Timers) (h : AreTimers timers) (small : timers.next < 2 ^ 64) where
  is_timer : (number moment : ℕ) → IsTimer timers.next number moment
      → may_be_timer number moment ≡ true
  is_timer number moment timer =
      all_three _ _ _ (lt-ltb _ _ timer.0) (lt-ltb _ _ (omega arith)) (le-leb _ _ timer.2)

  alarm_is : (before rest : List Alarm) (alarm : Alarm) → before ++ alarm ∷ rest ≡ timers.alarms
      → IsTimer timers.next alarm.number alarm.moment
  alarm_is before rest alarm is =
      at_seam before alarm rest (IsAlarm timers.next)
      (subst (All (IsAlarm timers.next)) (sym is) h.alarms)

  delay_is : (before rest : List Delay) (delay : Delay) → before ++ delay ∷ rest ≡ timers.delays
      → IsTimer timers.next delay.number delay.moment
  delay_is before rest delay is =
      at_seam before delay rest (IsDelay timers.next)
      (subst (All (IsDelay timers.next)) (sym is) h.delays)

  alarm_follows : (before rest : List Alarm) (alarm : Alarm) → before ++ alarm ∷ rest ≡ timers.alarms
      → alarm_may_follow before [] alarm ≡ true
  alarm_follows before rest alarm is =
      let pairs = before_seam before alarm rest AlarmsDiffer
      (subst (AllPairs AlarmsDiffer) (sym is) h.alarms_differ) in
      all_five _ _ _ _ _
      (is_timer alarm.number alarm.moment (alarm_is before rest alarm is))
      (lt-ltb _ _ (room before alarm rest MOST_ALARMS
      (subst (λ l. length l ≤ MOST_ALARMS) (sym is) h.few_alarms)))
      (list_all-from_AllPass _ before (λ k d below. lt-ltb _ _ (pairs k d below).0))
      (ap not (list_any_none _ before (λ k d below. (pairs k d below).1)))
      refl

  delay_follows : (before rest : List Delay) (delay : Delay) → before ++ delay ∷ rest ≡ timers.delays
      → delay_may_follow timers.alarms before delay ≡ true
  delay_follows before rest delay is =
      let pairs = before_seam before delay rest DelaysDiffer
      (subst (AllPairs DelaysDiffer) (sym is) h.delays_differ) in
      all_five _ _ _ _ _
      (is_timer delay.number delay.moment (delay_is before rest delay is))
      (lt-ltb _ _ (room before delay rest MOST_DELAYS
      (subst (λ l. length l ≤ MOST_DELAYS) (sym is) h.few_delays)))
      (list_all-from_AllPass _ before (λ k d below. lt-ltb _ _ (pairs k d below).0))
      (ap not (list_any_none _ before (λ k d below. (pairs k d below).1)))
      (ap not (list_any_none _ timers.alarms (λ k d below. ne_eqb _ _
      (at_seam before delay rest (λ other. (get_or timers.alarms k d).number ≢ other.number)
      (subst (All (λ other. (get_or timers.alarms k d).number ≢ other.number)) (sym is)
      (h.apart k d below))))))

  alarms_come : (before rest : List Alarm) (n : ℕ) → n ≤ timers.next
      → before ++ rest ≡ timers.alarms
      → (m : ℕ) × (m ≤ timers.next)
      × (alarms_put_back (record { next = n; alarms = before; delays = [] }) rest
      ≡ Some (record { next = m; alarms = timers.alarms; delays = [] }))
  alarms_come before [] n rises is = (
    n,
    rises,
    ap (λ (l : List Alarm). Some (record { next = n; alarms = l; delays = [] }))
        (sym (append-nil before) ∙ is),
  )
  alarms_come before (alarm ∷ rest) n rises is =
      let own = (alarm_is before rest alarm is).1 in
      let (m, most, later) = alarms_come (before ++ alarm ∷ []) rest (max n (alarm.number + 1))
      (omega (arith, rises, own)) (append_assoc before (alarm ∷ []) rest ∙ is) in
      (m, most, rw (alarm_follows before rest alarm is) later)

  delays_come : (before rest : List Delay) (n : ℕ) → n ≤ timers.next
      → before ++ rest ≡ timers.delays
      → (m : ℕ) × (m ≤ timers.next)
      × (delays_put_back (record { next = n; alarms = timers.alarms; delays = before }) rest
      ≡ Some (record { next = m; alarms = timers.alarms; delays = timers.delays }))
  delays_come before [] n rises is = (
    n,
    rises,
    ap (λ (l : List Delay). Some (record { next = n; alarms = timers.alarms; delays = l }))
        (sym (append-nil before) ∙ is),
  )
  delays_come before (delay ∷ rest) n rises is =
      let own = (delay_is before rest delay is).1 in
      let (m, most, later) = delays_come (before ++ delay ∷ []) rest (max n (delay.number + 1))
      (omega (arith, rises, own)) (append_assoc before (delay ∷ []) rest ∙ is) in
      (m, most, rw (delay_follows before rest delay is) later)

  pub all_come : all_put_back timers ≡ Some timers
  all_come =
      let (n, first, alarms) = alarms_come [] timers.alarms 1 (omega (arith, h.next)) refl in
      let (m, most, delays) = delays_come [] timers.delays n first refl in
      rw (alarms, delays, le-leb m timers.next most) refl

pub timers_come_back : TimersComeBack
timers_come_back timers h small = all_come timers h small
