use Rattle.iop_queues.proofs.Finding.{Finds-first}
use Rattle.iop_queues.proofs.walks.next_node.Goals as goal

pub returns-else-by_priority : goal.returns-else-by_priority
returns-else-by_priority g c = record {
  node = rw (c.if-by_priority.false, c.first.ensures.node) (Finds-first _ _ c.requires.filled);
  below = c.first.ensures.below;
}
