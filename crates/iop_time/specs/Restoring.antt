-- How alarms, delays and the next number that stood in one clock are put back into another, each
-- behind those that it has. It asks for what holds of every clock, for a number below 2^64 behind
-- each that is put back, and for nothing else.
use Rattle.std.specs.Prelude.{◌≡◌, ℕ, ◌+◌, ◌-◌, ◌^◌, ◌<◌, ◌==◌, nat_lt, nat_le, max, Bool, ◌&&◌, not, if◌then◌else◌, Option, Some, None, option_and_then, List, [], ◌∷◌, ◌++◌, length}
use Rattle.std.specs.List.{list_all, list_any}
use Rattle.iop_time.specs.Timers.{Timers, AreTimers, no_timers, is_alarm_of, is_delay_of}
use Rattle.iop_time.specs.declared.alarm.Alarm.{Alarm}
use Rattle.iop_time.specs.declared.delay.Delay.{Delay}
use Rattle.iop_time.specs.declared.clock.TheConstants.{MOST_ALARMS, MOST_DELAYS}
use Rattle.iop_time.specs.declared.ticks.TheConstants.{NEVER}

-- whether a timer may have this number and this moment
abbrev pub may_be_timer : (number moment : ℕ) → Bool
may_be_timer number moment = nat_lt 0 number && nat_lt number (2 ^ 64 - 1) && nat_le moment NEVER

-- whether the alarms have numbers below this one, and the delays
abbrev pub alarms_are_below : ℕ → List Alarm → Bool
alarms_are_below number alarms = list_all (λ alarm. nat_lt alarm.number number) alarms

abbrev pub delays_are_below : ℕ → List Delay → Bool
delays_are_below number delays = list_all (λ delay. nat_lt delay.number number) delays

-- whether an alarm has this number, and whether a delay has it
abbrev pub alarms_have : ℕ → List Alarm → Bool
alarms_have number alarms = list_any (λ alarm. alarm.number == number) alarms

abbrev pub delays_have : ℕ → List Delay → Bool
delays_have number delays = list_any (λ delay. delay.number == number) delays

-- whether an alarm may stand behind these alarms, beside these delays
abbrev pub alarm_may_follow : List Alarm → List Delay → Alarm → Bool
alarm_may_follow alarms delays alarm =
    may_be_timer alarm.number alarm.moment && nat_lt (length alarms) MOST_ALARMS
    && alarms_are_below alarm.number alarms
    && not (list_any (is_alarm_of alarm.handler alarm.arg) alarms)
    && not (delays_have alarm.number delays)

-- whether a delay may stand behind these delays, beside these alarms
abbrev pub delay_may_follow : List Alarm → List Delay → Delay → Bool
delay_may_follow alarms delays delay =
    may_be_timer delay.number delay.moment && nat_lt (length delays) MOST_DELAYS
    && delays_are_below delay.number delays && not (list_any (is_delay_of delay.thread) delays)
    && not (alarms_have delay.number alarms)

-- the timers with this alarm behind the others; the next number is above its number
abbrev pub with_last_alarm : Timers → Alarm → Timers
with_last_alarm timers alarm = record timers {
  next = max timers.next (alarm.number + 1);
  alarms = timers.alarms ++ alarm ∷ [];
}

-- the timers with this delay behind the others; the next number is above its number
abbrev pub with_last_delay : Timers → Delay → Timers
with_last_delay timers delay = record timers {
  next = max timers.next (delay.number + 1);
  delays = timers.delays ++ delay ∷ [];
}

-- what putting each of them back leaves, one after the other; none where one is refused
abbrev pub alarms_put_back : Timers → List Alarm → Option Timers
alarms_put_back timers [] = Some timers
alarms_put_back timers (alarm ∷ rest) =
    if alarm_may_follow timers.alarms timers.delays alarm
    then alarms_put_back (with_last_alarm timers alarm) rest
    else None

abbrev pub delays_put_back : Timers → List Delay → Option Timers
delays_put_back timers [] = Some timers
delays_put_back timers (delay ∷ rest) =
    if delay_may_follow timers.alarms timers.delays delay
    then delays_put_back (with_last_delay timers delay) rest
    else None

abbrev pub number_put_back : Timers → ℕ → Option Timers
number_put_back timers number =
    if nat_le timers.next number then Some (record timers { next = number }) else None

-- all that stands in a clock, put back into one with no alarm and no delay: the alarms, the delays,
-- and the next number
abbrev pub all_put_back : Timers → Option Timers
all_put_back timers =
    option_and_then (λ restored. number_put_back restored timers.next)
    (option_and_then (λ restored. delays_put_back restored timers.delays)
    (alarms_put_back no_timers timers.alarms))

-- nothing of it is refused, and it is the same clock again
abbrev pub TimersComeBack : Type 0
TimersComeBack =
    (timers : Timers) → AreTimers timers → timers.next < 2 ^ 64 → all_put_back timers ≡ Some timers
