use Rattle.std.proofs.Common.{◌≡◌, length}
use Rattle.iop_queues.specs.Queues.{queue_at, others_where}
use Rattle.iop_queues.proofs.Beside.{StayBeside}
use Rattle.iop_queues.proofs.queues.Queues.remove_where.Given as goal

abbrev pub invariant-loop : goal.invariant-loop
invariant-loop g l =
    let p = g.C.Condition.holds_for l.condition in
    StayBeside l.queue l.self l.fn.self
    × (others_where p (queue_at l.queue l.self) ≡ others_where p (queue_at l.queue l.fn.self))

abbrev pub decreases-loop : goal.decreases-loop
decreases-loop g l = length (queue_at l.queue l.self)
