use Rattle.std.proofs.Common.{rules, arith}
use Rattle.std.proofs.lemmas.List.Edits.{map_over_more}
use Rattle.iop_time.specs.Timers.{later}
use Rattle.iop_time.proofs.alarm.put_off.Goals as goal

pub loop-alarm-preserved : goal.loop-alarm-preserved
loop-alarm-preserved c =
    rw c.later.ensures
    (map_over_more (later c.args.number c.args.ticks) c.args.alarms.now c.loop-alarm.alarms
    c.loop-alarm.alarm-index _ (omega arith) c.loop-alarm.invariant (search rules))
