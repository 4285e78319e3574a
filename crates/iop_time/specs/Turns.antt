-- Which alarm or delay comes next, and when. That delays and alarms have one order, by their
-- moments and at one moment by their numbers, is this project's own profile.
use Rattle.std.specs.Prelude.{ℕ, ◌==◌, nat_lt, nat_le, Bool, ◌&&◌, ◌||◌, if◌then◌else◌, Option, Some, None, option_map, List, ◌++◌, fold, map}
use Rattle.iop_time.specs.Timers.{Timers}
use Rattle.iop_time.specs.declared.alarm.Alarm.{Alarm}
use Rattle.iop_time.specs.declared.delay.Delay.{Delay}
use Rattle.iop_time.specs.declared.turn.Turn.{Turn}
use Rattle.iop_time.specs.declared.ticks.TheConstants.{NEVER}

abbrev pub turn_of_alarm : Alarm → Turn
turn_of_alarm alarm = record { moment = alarm.moment; number = alarm.number }

abbrev pub turn_of_delay : Delay → Turn
turn_of_delay delay = record { moment = delay.moment; number = delay.number }

-- whether a turn comes at all
abbrev pub comes : Turn → Bool
comes turn = nat_lt turn.moment NEVER

-- whether one turn comes before another
abbrev pub is_before : Turn → Turn → Bool
is_before one other =
    nat_lt one.moment other.moment || one.moment == other.moment && nat_lt one.number other.number

-- the one of two that comes first, if there are two
abbrev pub sooner : Option Turn → Turn → Turn
sooner None turn = turn
sooner (Some other) turn = if is_before other turn then other else turn

-- the first of some turns and one more; one that never comes changes nothing
abbrev pub first_with : Option Turn → Turn → Option Turn
first_with first turn = if comes turn then Some (sooner first turn) else first

-- the turns of alarms and delays
abbrev pub turns : List Alarm → List Delay → List Turn
turns alarms delays = map turn_of_alarm alarms ++ map turn_of_delay delays

-- the turn that comes first, if one comes at all
abbrev pub first_turn : List Alarm → List Delay → Option Turn
first_turn alarms delays = fold first_with None (turns alarms delays)

-- the number of a turn, if it is due at a moment
abbrev pub number_if_due : ℕ → Option Turn → Option ℕ
number_if_due t None = None
number_if_due t (Some turn) = if nat_le turn.moment t then Some turn.number else None

-- the number of what comes next at a moment
abbrev pub due : Timers → ℕ → Option ℕ
due timers t = number_if_due t (first_turn timers.alarms timers.delays)

-- the least moment at which something comes
abbrev pub next_moment : Timers → Option ℕ
next_moment timers = option_map (λ turn. turn.moment) (first_turn timers.alarms timers.delays)
