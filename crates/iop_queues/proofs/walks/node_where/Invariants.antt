use Rattle.std.proofs.Common.{length}
use Rattle.iop_cblock.specs.Lists.{list_at}
use Rattle.iop_queues.specs.Walks.{ahead}
use Rattle.iop_queues.proofs.Steps.{NoneSoFar}
use Rattle.iop_queues.proofs.walks.node_where.Given as goal

abbrev pub invariant-loop-cursor : goal.invariant-loop-cursor
invariant-loop-cursor g l =
    NoneSoFar l.items l.nodes l.list (g.C.Condition.holds_for l.condition) l.cursor

abbrev pub decreases-loop-cursor : goal.decreases-loop-cursor
decreases-loop-cursor g l = length (ahead l.cursor (list_at l.list l.nodes))
