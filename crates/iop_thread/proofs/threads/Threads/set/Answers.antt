use Rattle.iop_thread.proofs.Holding.{becomes}
use Rattle.iop_thread.proofs.threads.Threads.set.Goals as goal

pub returns : goal.returns
returns g c = λ place s h can.
    rw c.put.ensures
    (becomes g.R.Ready.stands place c.args.self.now s h c.args.slot c.args.thread can)
