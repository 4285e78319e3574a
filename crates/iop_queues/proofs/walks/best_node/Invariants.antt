use Rattle.std.proofs.Common.{length}
use Rattle.iop_cblock.specs.Lists.{list_at}
use Rattle.iop_queues.specs.Walks.{ahead}
use Rattle.iop_queues.proofs.Steps.{BestSoFar}
use Rattle.iop_queues.proofs.walks.best_node.Given as goal

abbrev pub invariant-loop-cursor : goal.invariant-loop-cursor
invariant-loop-cursor g l = BestSoFar l.items l.nodes l.list l.cursor l.best

abbrev pub decreases-loop-cursor : goal.decreases-loop-cursor
decreases-loop-cursor g l = length (ahead l.cursor (list_at l.list l.nodes))
