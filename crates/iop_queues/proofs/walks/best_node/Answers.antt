use Rattle.iop_queues.proofs.Steps.{node_below, item_below, nearer, best_more}
use Rattle.iop_queues.proofs.walks.best_node.Goals as goal

pub priority-priority-requires : goal.priority-priority-requires
priority-priority-requires g c = item_below c.requires c.in-Some.is c.loop-cursor.invariant.inside

pub next-cursor-requires : goal.next-cursor-requires
next-cursor-requires g c = node_below c.requires c.in-Some.is c.loop-cursor.invariant.inside

pub loop-cursor-preserved : goal.loop-cursor-preserved
loop-cursor-preserved g c =
    best_more c.requires c.in-Some.is c.loop-cursor.invariant.inside c.loop-cursor.invariant
    c.next-cursor.ensures.node c.priority-priority.ensures c.better.ensures

pub returns-clause-node : goal.returns-clause-node
returns-clause-node g c =
    let found = c.loop-cursor.invariant.found in
    rw (c.in_default.is, c.in_ok-best.was) at found

pub loop-cursor-smaller : goal.loop-cursor-smaller
loop-cursor-smaller g c =
    nearer c.requires c.in-Some.is c.loop-cursor.invariant.inside c.next-cursor.ensures.node
