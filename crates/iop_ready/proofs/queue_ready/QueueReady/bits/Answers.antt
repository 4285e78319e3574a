use Rattle.iop_ready.specs.Queues.{Queues, queues_of, Hold}
use Rattle.iop_ready.proofs.BestQueue.{are_bits}
use Rattle.iop_ready.proofs.queue_ready.QueueReady.bits.Goals as goal

pub returns-clause-threads : goal.returns-clause-threads
returns-clause-threads c xs h =
    let q : Queues = queues_of c.self.inside.queues c.self.inside.filled in
    let hold : Hold q xs = rw c.self.view_is h in
    rw c.bits.ensures.same
    (are_bits q c.self.invariant xs hold (rw (← c.bits.ensures.same) c.bits.ensures.priorities))
