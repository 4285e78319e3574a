-- What holds of every clock holds after each change.
use Rattle.std.proofs.Common.{◌≡◌, ◌≢◌, ℕ, ◌+◌, ◌<◌, ◌≤◌, ◌==◌, Bool, true, false, ◌||◌, cond, min, List, [], ◌∷◌, length, get_or, filter, All, zero, suc, refl, arith}
use Rattle.std.specs.List.{list_any}
use Rattle.std.proofs.lemmas.List.{get_or-map, length-map}
use Rattle.std.proofs.lemmas.List.Elements.{All-push, All-filter, All-weaker, All-map}
use Rattle.std.proofs.lemmas.List.Kept.{AllPairs-filter}
use Rattle.std.proofs.lemmas.List.Quantifiers.{all_pairs_push}
use Rattle.std.proofs.lemmas.List.Sums.{length-filter, count_by-le-length}
use Rattle.std.proofs.lemmas.Grind.{length_at_push}
use Rattle.iop_time.specs.ClockTime.{moment_after}
use Rattle.iop_time.specs.Timers.{Timers, IsTimer, AlarmsDiffer, DelaysDiffer, AreTimers, is_alarm_of, is_delay_of, with_alarm, delays, later, sets_again}
use Rattle.iop_time.specs.declared.alarm.Alarm.{Alarm}
use Rattle.iop_time.specs.declared.delay.Delay.{Delay}
use Rattle.iop_time.specs.declared.clock.TheConstants.{MOST_ALARMS, MOST_DELAYS}
use Rattle.iop_time.specs.declared.ticks.TheConstants.{NEVER}

-- what stands nowhere in a list fails at each place
both_fail : (b c : Bool) → (b || c) ≡ false → (b ≡ false) × (c ≡ false)
both_fail true c none = cc
both_fail false c none = (refl, none)

pub fails_at : {X : Type 0} (p : X → Bool) (xs : List X) → list_any p xs ≡ false
    → (k : ℕ) (d : X) → k < length xs → p (get_or xs k d) ≡ false
fails_at p [] none k d below = absurd (omega arith)
fails_at p (x ∷ xs) none zero d below = (both_fail (p x) (list_any p xs) none).0
fails_at p (x ∷ xs) none (suc k) d below =
    fails_at p xs (both_fail (p x) (list_any p xs) none).1 k d (omega arith)

-- a number that was given stays so
abbrev pub IsAlarm : ℕ → Alarm → Type 0
IsAlarm next alarm = IsTimer next alarm.number alarm.moment

abbrev pub IsDelay : ℕ → Delay → Type 0
IsDelay next delay = IsTimer next delay.number delay.moment

abbrev pub AreApart : List Delay → Alarm → Type 0
AreApart ds alarm = All (λ delay. alarm.number ≢ delay.number) ds

older : (next number moment : ℕ) → IsTimer next number moment → IsTimer (next + 1) number moment
older next number moment h = (h.0, omega arith, h.2)

newest : (next moment : ℕ) → 0 < next → IsTimer (next + 1) next (min moment NEVER)
newest next moment some = (some, omega arith, omega arith)

pub with_alarm-keeps : (timers : Timers) (moment handler arg gp : ℕ) → AreTimers timers
    → list_any (is_alarm_of handler arg) timers.alarms ≡ false → length timers.alarms < MOST_ALARMS
    → AreTimers (with_alarm timers moment handler arg gp)
with_alarm-keeps timers moment handler arg gp h none room =
    let alarm : Alarm = record {
      number = timers.next;
      moment = min moment NEVER;
      handler = handler;
      arg = arg;
      gp = gp;
    } in
    record {
      next = omega arith;
      few_alarms = omega (arith, (length_at_push timers.alarms alarm).1);
      few_delays = h.few_delays;
      alarms = All-push (IsAlarm (timers.next + 1)) timers.alarms alarm
          (All-weaker (IsAlarm timers.next) (IsAlarm (timers.next + 1))
          (λ a. older timers.next a.number a.moment) timers.alarms h.alarms)
          (newest timers.next moment h.next);
      delays = All-weaker (IsDelay timers.next) (IsDelay (timers.next + 1))
          (λ d. older timers.next d.number d.moment) timers.delays h.delays;
      alarms_differ = all_pairs_push AlarmsDiffer timers.alarms alarm h.alarms_differ
          (λ k d below. (
            (h.alarms k d below).1,
            fails_at (is_alarm_of handler arg) timers.alarms none k d below,
          ));
      delays_differ = h.delays_differ;
      apart = All-push (AreApart timers.delays) timers.alarms alarm h.apart
          (λ k d below. let given = (h.delays k d below).1 in omega arith);
    }

pub with_delay-keeps : (timers : Timers) (moment thread : ℕ) → AreTimers timers
    → list_any (is_delay_of thread) timers.delays ≡ false → length timers.delays < MOST_DELAYS
    → AreTimers (delays timers moment thread)
with_delay-keeps timers moment thread h none room =
    let delay : Delay = record {
      number = timers.next;
      moment = min moment NEVER;
      thread = thread;
    } in
    record {
      next = omega arith;
      few_alarms = h.few_alarms;
      few_delays = omega (arith, (length_at_push timers.delays delay).1);
      alarms = All-weaker (IsAlarm timers.next) (IsAlarm (timers.next + 1))
          (λ a. older timers.next a.number a.moment) timers.alarms h.alarms;
      delays = All-push (IsDelay (timers.next + 1)) timers.delays delay
          (All-weaker (IsDelay timers.next) (IsDelay (timers.next + 1))
          (λ d. older timers.next d.number d.moment) timers.delays h.delays)
          (newest timers.next moment h.next);
      alarms_differ = h.alarms_differ;
      delays_differ = all_pairs_push DelaysDiffer timers.delays delay h.delays_differ
          (λ k d below. (
            (h.delays k d below).1,
            fails_at (is_delay_of thread) timers.delays none k d below,
          ));
      apart = λ k d below.
          All-push (λ delay. (get_or timers.alarms k d).number ≢ delay.number) timers.delays delay
          (h.apart k d below) (let given = (h.alarms k d below).1 in omega arith);
    }

filter-few : {X : Type 0} (p : X → Bool) (xs : List X) (most : ℕ) → length xs ≤ most
    → length (filter p xs) ≤ most
filter-few p xs most few = omega (arith, length-filter p xs, count_by-le-length p xs)

pub without_alarms-keeps : (timers : Timers) (p : Alarm → Bool) → AreTimers timers
    → AreTimers (record timers { alarms = filter p timers.alarms })
without_alarms-keeps timers p h = record {
  next = h.next;
  few_alarms = filter-few p timers.alarms MOST_ALARMS h.few_alarms;
  few_delays = h.few_delays;
  alarms = All-filter p (IsAlarm timers.next) timers.alarms h.alarms;
  delays = h.delays;
  alarms_differ = AllPairs-filter AlarmsDiffer p timers.alarms h.alarms_differ;
  delays_differ = h.delays_differ;
  apart = All-filter p (AreApart timers.delays) timers.alarms h.apart;
}

pub without_delays-keeps : (timers : Timers) (p : Delay → Bool) → AreTimers timers
    → AreTimers (record timers { delays = filter p timers.delays })
without_delays-keeps timers p h = record {
  next = h.next;
  few_alarms = h.few_alarms;
  few_delays = filter-few p timers.delays MOST_DELAYS h.few_delays;
  alarms = h.alarms;
  delays = All-filter p (IsDelay timers.next) timers.delays h.delays;
  alarms_differ = h.alarms_differ;
  delays_differ = AllPairs-filter DelaysDiffer p timers.delays h.delays_differ;
  apart = λ k d below.
      All-filter p (λ delay. (get_or timers.alarms k d).number ≢ delay.number) timers.delays
      (h.apart k d below);
}

-- an alarm that is put off keeps all but its moment
record IsPutOff (old new : Alarm) : Type 0 where
  pub number : new.number ≡ old.number
  pub handler : new.handler ≡ old.handler
  pub arg : new.arg ≡ old.arg
  pub moment : old.moment ≤ NEVER → new.moment ≤ NEVER

put_off_by : (number ticks : ℕ) (alarm : Alarm) (b : Bool)
    → IsPutOff alarm (cond b (record alarm { moment = moment_after alarm.moment ticks }) alarm)
put_off_by number ticks alarm true =
    record { number = refl; handler = refl; arg = refl; moment = λ h. omega arith }
put_off_by number ticks alarm false =
    record { number = refl; handler = refl; arg = refl; moment = λ h. h }

put_off : (number ticks : ℕ) (alarm : Alarm) → IsPutOff alarm (later number ticks alarm)
put_off number ticks alarm = put_off_by number ticks alarm (alarm.number == number)

still_differ : (number ticks : ℕ) (first second : Alarm) → AlarmsDiffer first second
    → AlarmsDiffer (later number ticks first) (later number ticks second)
still_differ number ticks first second h =
    let one = put_off number ticks first in
    let two = put_off number ticks second in
    (rw (one.number, two.number) h.0, rw (one.handler, one.arg, two.handler, two.arg) h.1)

pub sets_again-keeps : (timers : Timers) (number ticks : ℕ) → AreTimers timers
    → AreTimers (sets_again timers number ticks)
sets_again-keeps timers number ticks h =
    let put = later number ticks in
    record {
      next = h.next;
      few_alarms = omega (arith, length-map timers.alarms put);
      few_delays = h.few_delays;
      alarms = All-map (IsAlarm timers.next) put timers.alarms
          (All-weaker (IsAlarm timers.next) (λ a. IsAlarm timers.next (put a))
          (λ a given. let off = put_off number ticks a in
          rw off.number (given.0, given.1, off.moment given.2)) timers.alarms h.alarms);
      delays = h.delays;
      alarms_differ = λ i j d before below.
          let short : j < length timers.alarms = omega (arith, length-map timers.alarms put) in
          rw (
            get_or-map put timers.alarms i d d (omega arith),
            get_or-map put timers.alarms j d d short,
          )
          (still_differ number ticks (get_or timers.alarms i d) (get_or timers.alarms j d)
          (h.alarms_differ i j d before short));
      delays_differ = h.delays_differ;
      apart = All-map (AreApart timers.delays) put timers.alarms
          (All-weaker (AreApart timers.delays) (λ a. AreApart timers.delays (put a))
          (λ a apart. rw (put_off number ticks a).number apart) timers.alarms h.apart);
    }
