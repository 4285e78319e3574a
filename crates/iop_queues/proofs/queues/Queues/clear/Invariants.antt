use Rattle.std.proofs.Common.{length}
use Rattle.iop_queues.specs.Queues.{queue_at}
use Rattle.iop_queues.proofs.Beside.{StayBeside}
use Rattle.iop_queues.proofs.queues.Queues.clear.Given as goal

abbrev pub invariant-loop : goal.invariant-loop
invariant-loop g l = StayBeside l.queue l.self l.fn.self

abbrev pub decreases-loop : goal.decreases-loop
decreases-loop g l = length (queue_at l.queue l.self)
