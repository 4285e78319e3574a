use Rattle.iop_snapshot.proofs.Putting.{puts_more}
use Rattle.iop_saved_tables.specs.Records.{delay_form}
use Rattle.iop_saved_tables.specs.Tables.{put_delay}
use Rattle.iop_saved_tables.proofs.timers.DelaysRestoreItemsDelay.restore_next.Goals as goal

pub returns : goal.returns
returns c =
    λ base xs u there.
    puts_more put_delay delay_form base.clock c.args.self.now.clock c.put_delay.new.clock xs
    c.put_delay.result c.args.decoder.now c.put_delay.new.decoder there c.put_delay.ensures
