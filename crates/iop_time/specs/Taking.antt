-- What is taken when it comes due. That a delay leaves then, and an alarm stands until its
-- handler's result, is this project's own profile.
use Rattle.std.specs.Prelude.{ℕ, ◌==◌, Option, Some, None, option_map, option_and_then, find}
use Rattle.std.specs.Option.{option_or}
use Rattle.iop_time.specs.Timers.{Timers, drops_delay}
use Rattle.iop_time.specs.Turns.{due}
use Rattle.iop_time.specs.declared.due.Due.{Due}
use Rattle.iop_time.specs.declared.due.Due.TheVariants.{Alarm, Delay}

-- the alarm of a number, the delay of a number, and whichever of them there is
abbrev pub alarm_of : Timers → ℕ → Option Due
alarm_of timers number = option_map Alarm (find (λ alarm. alarm.number == number) timers.alarms)

abbrev pub delay_of : Timers → ℕ → Option Due
delay_of timers number = option_map Delay (find (λ delay. delay.number == number) timers.delays)

abbrev pub timer_of : Timers → ℕ → Option Due
timer_of timers number = option_or (alarm_of timers number) (delay_of timers number)

-- the timers that are left where this is taken
abbrev pub without_due : Timers → Option Due → Timers
without_due timers None = timers
without_due timers (Some (Alarm alarm)) = timers
without_due timers (Some (Delay delay)) = drops_delay timers delay.thread

-- what is taken at a moment, and the timers that are left
abbrev pub takes_due : Timers → ℕ → Option Due × Timers
takes_due timers t =
    let taken = option_and_then (timer_of timers) (due timers t) in
    (taken, without_due timers taken)
