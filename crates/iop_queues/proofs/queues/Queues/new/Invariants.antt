use Rattle.std.proofs.Common.{◌≡◌}
use Rattle.iop_cblock.specs.Lists.{AreDisjoint}
use Rattle.iop_queues.proofs.Fresh.{filling}
use Rattle.iop_queues.proofs.queues.Queues.new.Given as goal

abbrev pub invariant-loop-node : goal.invariant-loop-node
invariant-loop-node g l =
    (l.nodes ≡ filling g.row.ROOM l.queues l.node) × AreDisjoint l.nodes
