-- How alarms and delays are spelled, by their numbers, and how they are put back. This project's
-- own profile.
use Rattle.std.specs.Prelude.{Option, Some, option_and_then, List}
use Rattle.iop_saved_objects.specs.Lists.{list_of}
use Rattle.iop_saved_tables.specs.Records.{alarm_form, delay_form}
use Rattle.iop_saved_tables.specs.Tables.{put_alarm, put_delay}
use Rattle.iop_snapshot.specs.Forms.{Form, both, seen_as}
use Rattle.iop_snapshot.specs.Putting.{put_all}
use Rattle.iop_time.specs.Timers.{Timers, no_timers}
use Rattle.iop_time.specs.declared.alarm.Alarm.{Alarm}
use Rattle.iop_time.specs.declared.delay.Delay.{Delay}

pub record TimerLists : Type 0 where
  pub alarms : List Alarm
  pub delays : List Delay

abbrev pub timers_with : List Alarm × List Delay → TimerLists
timers_with lists = record { alarms = lists.0; delays = lists.1 }

abbrev pub timers_parts : TimerLists → List Alarm × List Delay
timers_parts lists = (lists.alarms, lists.delays)

unfoldable pub timers_form : Form TimerLists
timers_form =
    seen_as (both (list_of alarm_form) (λ _. list_of delay_form))
    (λ lists. Some (timers_with lists)) timers_parts

abbrev pub timer_lists : Timers → TimerLists
timer_lists timers = record { alarms = timers.alarms; delays = timers.delays }

-- they are put back: the alarms, then the delays
unfoldable pub timers_back : TimerLists → Option Timers
timers_back lists =
    option_and_then (λ timers. put_all put_delay timers lists.delays)
    (put_all put_alarm no_timers lists.alarms)
