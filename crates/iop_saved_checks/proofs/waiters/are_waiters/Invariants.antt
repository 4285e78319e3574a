use Rattle.std.proofs.Common.{◌≡◌, length}
use Rattle.iop_saved_checks.specs.Waiters.{are_waiters, walked}
use Rattle.iop_saved_checks.proofs.waiters.are_waiters.Given as goal
use Rattle.iop_thread.specs.Standing.{Stands}
use Rattle.iop_thread.specs.ThreadTable.{ThreadTable}

abbrev pub invariant-loop-queued : goal.invariant-loop-queued
invariant-loop-queued g l =
    (s : ThreadTable) → Stands g.R.Ready.stands l.threads s
    → are_waiters s g.T.Waited.kind l.id (g.T.Waited.has_place l.guest) l.walk
    ≡ are_waiters s g.T.Waited.kind l.id (g.T.Waited.has_place l.guest) (walked l.fn.waiters)

abbrev pub decreases-loop-queued : goal.decreases-loop-queued
decreases-loop-queued g l = length l.walk
