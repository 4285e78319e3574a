use Rattle.std.proofs.Common.{◌≡◌, ◌+◌, length}
use Rattle.iop_base.specs.Numbers.{one_if}
use Rattle.iop_kernel.specs.Waits.{threads_of}
use Rattle.iop_saved_checks.specs.Waiters.{walked}
use Rattle.iop_saved_checks.proofs.waiters.is_once.Given as goal
use Rattle.iop_thread.specs.Placing.{times}

abbrev pub invariant-loop-queued : goal.invariant-loop-queued
invariant-loop-queued g l =
    times l.thread (threads_of (walked l.fn.waiters))
    ≡ one_if l.found + times l.thread (threads_of l.walk)

abbrev pub decreases-loop-queued : goal.decreases-loop-queued
decreases-loop-queued g l = length l.walk
