use Rattle.iop_snapshot.proofs.Putting.{puts_more}
use Rattle.iop_snapshot.specs.Putting.{next_form}
use Rattle.iop_snapshot.specs.Reading.{GivesNone}
use Rattle.iop_thread.specs.Restoring.{no_threads}
use Rattle.iop_saved_threads.specs.Tables.{put_thread}
use Rattle.iop_saved_threads.specs.Threads.{read_form}
use Rattle.iop_saved_threads.proofs.ThreadsInOrder.{match_ok}
use Rattle.iop_saved_threads.proofs.table.ThreadsBackRestoreItemsThread.restore_next.Goals as goal

pub returns : goal.returns
returns g c base xs none (s, h, there) =
    let one = c.put_next.ensures s h in
    match_ok (GivesNone ((next_form put_thread read_form no_threads xs).read c.args.decoder.now))
    c.put_next.result (λ u more. (more.0, (one.0, one.1, more.1), more.2))
    (puts_more put_thread read_form no_threads s one.0 xs c.put_next.result c.args.decoder.now
    c.put_next.new.decoder there one.2)
