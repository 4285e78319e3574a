use Rattle.iop_thread.proofs.Settling.{lends}
use Rattle.iop_thread.proofs.threads.Threads.ready.Goals as goal

pub returns : goal.returns
returns g c = λ s h. lends g.R.Ready.stands c.args.self.now s h
