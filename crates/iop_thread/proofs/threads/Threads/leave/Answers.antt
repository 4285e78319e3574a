use Rattle.iop_thread.proofs.Handling.{goes_out}
use Rattle.iop_thread.proofs.Holding.{none_running}
use Rattle.iop_thread.proofs.threads.Threads.leave.Goals as goal

pub returns-in-Running : goal.returns-in-Running
returns-in-Running g c = λ place s h at.
    rw c.in-Running.is (none_running g.R.Ready.stands place c.args.self.now s h)

pub returns-in-Ready : goal.returns-in-Ready
returns-in-Ready g c = λ place s h at.
    rw c.in-Ready.is
    (goes_out g.R.Ready.stands place c.args.self.now s c.args.found.now.slot c.args.found.now.thread
    h at c.in-Ready.field-0 c.remove.new.self c.remove.ensures)
