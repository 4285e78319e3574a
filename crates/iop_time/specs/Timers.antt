-- The alarms and delays that stand, and the calls that set them and take them out (ps2sdk:
-- thbase.h, SetAlarm, CancelAlarm, DelayThread; the codes are those of kerr.h). That an alarm is
-- told by its handler and its argument, how many can stand, and in which order the refusals come is
-- this project's own profile.
use Rattle.std.specs.Prelude.{◌≡◌, ◌≢◌, ℕ, ◌+◌, ◌<◌, ◌≤◌, ◌==◌, nat_lt, min, Bool, false, ◌&&◌, not, if◌then◌else◌, List, [], ◌∷◌, ◌++◌, length, filter, map, All, AllPairs}
use Rattle.std.specs.List.{list_any}
use Rattle.iop_base.specs.declared.code.Code.{Code}
use Rattle.iop_base.specs.declared.code.TheConstants.Code.{OK, HANDLER_FOUND, HANDLER_NOT_FOUND, NO_MEMORY}
use Rattle.iop_time.specs.ClockTime.{moment_after}
use Rattle.iop_time.specs.declared.alarm.Alarm.{Alarm}
use Rattle.iop_time.specs.declared.delay.Delay.{Delay}
use Rattle.iop_time.specs.declared.clock.TheConstants.{MOST_ALARMS, MOST_DELAYS}
use Rattle.iop_time.specs.declared.ticks.TheConstants.{NEVER}

pub record Timers : Type 0 where
  -- the number of the next one, alarm or delay
  pub next : ℕ
  -- those that stand, in the order of their numbers
  pub alarms : List Alarm
  pub delays : List Delay

abbrev pub no_timers : Timers
no_timers = record { next = 1; alarms = []; delays = [] }

-- whether an alarm is that of this handler and argument
abbrev pub is_alarm_of : (handler arg : ℕ) → Alarm → Bool
is_alarm_of handler arg alarm = alarm.handler == handler && alarm.arg == arg

-- whether a delay is that of this thread
abbrev pub is_delay_of : ℕ → Delay → Bool
is_delay_of thread delay = delay.thread == thread

-- the timers with one more alarm
abbrev pub with_alarm : Timers → (moment handler arg gp : ℕ) → Timers
with_alarm timers moment handler arg gp =
    let alarm : Alarm = record {
      number = timers.next;
      moment = min moment NEVER;
      handler = handler;
      arg = arg;
      gp = gp;
    } in
    record timers { next = timers.next + 1; alarms = timers.alarms ++ alarm ∷ [] }

-- what to set an alarm answers, and the timers that it leaves
abbrev pub sets_alarm : Timers → (moment handler arg gp : ℕ) → Code × Timers
sets_alarm timers moment handler arg gp =
    if list_any (is_alarm_of handler arg) timers.alarms then (HANDLER_FOUND, timers)
    else if nat_lt (length timers.alarms) MOST_ALARMS
    then (OK, with_alarm timers moment handler arg gp)
    else (NO_MEMORY, timers)

-- the timers without the alarm of this handler and argument
abbrev pub without_alarm : Timers → (handler arg : ℕ) → Timers
without_alarm timers handler arg =
    record timers { alarms = filter (λ alarm. not (is_alarm_of handler arg alarm)) timers.alarms }

-- what to cancel an alarm answers, and the timers that it leaves
abbrev pub cancels : Timers → (handler arg : ℕ) → Code × Timers
cancels timers handler arg =
    if list_any (is_alarm_of handler arg) timers.alarms
    then (OK, without_alarm timers handler arg)
    else (HANDLER_NOT_FOUND, timers)

-- the timers with one more delay
abbrev pub delays : Timers → (moment thread : ℕ) → Timers
delays timers moment thread =
    let delay : Delay = record {
      number = timers.next;
      moment = min moment NEVER;
      thread = thread;
    } in
    record timers { next = timers.next + 1; delays = timers.delays ++ delay ∷ [] }

-- the timers without the delay of a thread
abbrev pub drops_delay : Timers → (thread : ℕ) → Timers
drops_delay timers thread =
    record timers { delays = filter (λ delay. not (is_delay_of thread delay)) timers.delays }

-- the alarm, so many ticks later if it has this number
abbrev pub later : (number ticks : ℕ) → Alarm → Alarm
later number ticks alarm =
    if alarm.number == number
    then record alarm { moment = moment_after alarm.moment ticks }
    else alarm

-- the timers where the alarm of a number is set again, so many ticks after its moment
abbrev pub sets_again : Timers → (number ticks : ℕ) → Timers
sets_again timers number ticks =
    record timers { alarms = map (later number ticks) timers.alarms }

-- the timers without the alarm of a number
abbrev pub removes : Timers → (number : ℕ) → Timers
removes timers number =
    record timers { alarms = filter (λ alarm. not (alarm.number == number)) timers.alarms }

-- a number is from 1 on and was given already, and a moment is at most that which never comes
abbrev pub IsTimer : (next number moment : ℕ) → Type 0
IsTimer next number moment = (0 < number) × (number < next) × (moment ≤ NEVER)

-- of two alarms the first has the smaller number, and the second another handler or argument
abbrev pub AlarmsDiffer : Alarm → Alarm → Type 0
AlarmsDiffer first second =
    (first.number < second.number) × (is_alarm_of second.handler second.arg first ≡ false)

-- of two delays the first has the smaller number, and the second another thread
abbrev pub DelaysDiffer : Delay → Delay → Type 0
DelaysDiffer first second =
    (first.number < second.number) × (is_delay_of second.thread first ≡ false)

-- what holds of every clock
pub record AreTimers (timers : Timers) : Type 0 where
  pub next : 0 < timers.next
  pub few_alarms : length timers.alarms ≤ MOST_ALARMS
  pub few_delays : length timers.delays ≤ MOST_DELAYS
  pub alarms : All (λ alarm. IsTimer timers.next alarm.number alarm.moment) timers.alarms
  pub delays : All (λ delay. IsTimer timers.next delay.number delay.moment) timers.delays
  pub alarms_differ : AllPairs AlarmsDiffer timers.alarms
  pub delays_differ : AllPairs DelaysDiffer timers.delays
  -- no alarm and no delay have the same number
  pub apart : All (λ alarm. All (λ delay. alarm.number ≢ delay.number) timers.delays) timers.alarms
