use Rattle.std.proofs.Common.{◌∙◌, ap, is_some}
use Rattle.iop_thread.proofs.ReadingThreads.{some_ready}
use Rattle.iop_thread.proofs.restored_threads.RestoredThreads.is_ready_at.Goals as goal

pub returns : goal.returns
returns g c = λ s r.
    c.is_some.ensures
    ∙ ap is_some (c.at.ensures _ r.holds.ready)
    ∙ some_ready g.R.Ready.stands r.place c.args.self.now.threads s r.holds c.args.priority
