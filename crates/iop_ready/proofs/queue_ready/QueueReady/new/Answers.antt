use Rattle.iop_ready.proofs.Holding.{hold-new}
use Rattle.iop_ready.proofs.Filling.{sound-new}
use Rattle.iop_ready.proofs.queue_ready.QueueReady.new.Goals as goal

pub invariant_of-result : goal.invariant_of-result
invariant_of-result c =
    sound-new _ c.in_ok-queues.ensures.lists c.in_ok-queues.ensures.disjoint _ c.new-filled.ensures

pub returns : goal.returns
returns c = rw c.in_ok-queues.ensures.lists (hold-new _)
