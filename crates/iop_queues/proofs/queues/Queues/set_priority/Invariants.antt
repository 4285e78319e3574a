use Rattle.std.proofs.Common.{◌≡◌}
use Rattle.iop_queues.specs.Queues.{queue_at}
use Rattle.iop_queues.proofs.Beside.{StayBeside}
use Rattle.iop_queues.proofs.InPlace.{turned}
use Rattle.iop_queues.proofs.queues.Queues.set_priority.Given as goal

abbrev pub invariant-loop : goal.invariant-loop
invariant-loop g l =
    let p = g.C.Condition.holds_for l.condition in
    StayBeside l.queue l.self l.fn.self
    × (queue_at l.queue l.self ≡ turned p l.priority (queue_at l.queue l.fn.self) l.counter)
