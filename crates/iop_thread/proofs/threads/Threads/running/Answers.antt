use Rattle.std.proofs.Common.{◌∙◌, sym}
use Rattle.iop_thread.proofs.threads.Threads.running.Goals as goal
use Rattle.iop_thread.proofs.FindingThreads.{running_id}
use Rattle.iop_thread.proofs.FindingThreads.{none_runs}

pub returns-in_err-running : goal.returns-in_err-running
returns-in_err-running g c = λ s h.
    c.from_residual.ensures ∙ sym (none_runs s h.placed (c.in_err-running.ensures s h))

pub returns : goal.returns
returns g c = λ s h.
    sym (running_id s c.in_ok-running.running.thread (c.in_ok-running.ensures s h).0)
