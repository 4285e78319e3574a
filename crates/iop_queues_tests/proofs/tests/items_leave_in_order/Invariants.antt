use Rattle.std.proofs.Common.{◌≡◌, length}
use Rattle.iop_queues_tests.proofs.tests.items_leave_in_order.Given as goal

abbrev pub invariant-loop-queue : goal.invariant-loop-queue
invariant-loop-queue g l = length l.queues ≡ 3
