use Rattle.std.proofs.Common.{◌≡◌, ◌++◌, map, take, drop}
use Rattle.iop_time.specs.Timers.{later}
use Rattle.iop_time.proofs.alarm.put_off.Given as goal

abbrev pub invariant-loop-alarm : goal.invariant-loop-alarm
invariant-loop-alarm l =
    l.alarms
    ≡ map (later l.number l.ticks) (take l.alarm-index l.initial.alarms)
    ++ drop l.alarm-index l.initial.alarms
