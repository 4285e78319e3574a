use Rattle.std.proofs.Common.{◌∙◌, sym, subst}
use Rattle.iop_queues.proofs.Steps.{node_below, item_below, nearer}
use Rattle.iop_queues.proofs.BestWhere.{best_where_more, best_where_same}
use Rattle.iop_queues.proofs.walks.best_node_where.Goals as goal
use Rattle.iop_queues.proofs.walks.best_node_where.Goals.{then-holds_at, else-holds_at}

pub holds_at-requires : goal.holds_at-requires
holds_at-requires g c = item_below c.requires c.in-Some.is c.loop-cursor.invariant.inside

pub priority-priority-requires : goal.priority-priority-requires
priority-priority-requires g c = item_below c.requires c.in-Some.is c.loop-cursor.invariant.inside

pub next-cursor-requires : goal.next-cursor-requires
next-cursor-requires g c = node_below c.requires c.in-Some.is c.loop-cursor.invariant.inside

pub loop-cursor-preserved : goal.loop-cursor-preserved
loop-cursor-preserved g c =
    elim c.if-holds_at.branch [
      | then-holds_at w ↦ rw w.best-is
          (best_where_more c.requires c.in-Some.is c.loop-cursor.invariant.inside
          c.loop-cursor.invariant c.next-cursor.ensures.node
          (sym c.holds_at.ensures ∙ w.if-holds_at.true) w.priority-priority.ensures
          w.better.ensures)
      | else-holds_at w ↦ rw w.best-is
          (best_where_same c.requires c.in-Some.is c.loop-cursor.invariant.inside
          c.loop-cursor.invariant c.next-cursor.ensures.node
          (sym c.holds_at.ensures ∙ w.if-holds_at.false))
    ]

pub returns-clause-node : goal.returns-clause-node
returns-clause-node g c =
    let found = c.loop-cursor.invariant.found in
    rw (c.in_default.is, c.in_ok-best.was) at found

pub loop-cursor-smaller : goal.loop-cursor-smaller
loop-cursor-smaller g c =
    nearer c.requires c.in-Some.is c.loop-cursor.invariant.inside c.next-cursor.ensures.node
