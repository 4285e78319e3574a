use Rattle.iop_snapshot.proofs.Putting.{puts_more}
use Rattle.iop_saved_tables.specs.Records.{alarm_form}
use Rattle.iop_saved_tables.specs.Tables.{put_alarm}
use Rattle.iop_saved_tables.proofs.timers.AlarmsRestoreItemsAlarm.restore_next.Goals as goal

pub returns : goal.returns
returns c =
    λ base xs u there.
    puts_more put_alarm alarm_form base.clock c.args.self.now.clock c.put_alarm.new.clock xs
    c.put_alarm.result c.args.decoder.now c.put_alarm.new.decoder there c.put_alarm.ensures
