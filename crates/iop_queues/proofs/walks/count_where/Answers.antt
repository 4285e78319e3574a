use Rattle.std.proofs.Common.{◌∙◌, sym, arith}
use Rattle.iop_queues.proofs.Steps.{node_below, item_below, nearer, count_more, count_fits}
use Rattle.iop_queues.proofs.walks.count_where.Goals as goal
use Rattle.iop_queues.proofs.walks.count_where.Goals.{then-holds_at, else-holds_at}

pub holds_at-requires : goal.holds_at-requires
holds_at-requires g c = item_below c.requires c.in-Some.is c.loop-cursor.invariant.inside

pub overflow_add-count : goal.overflow_add-count
overflow_add-count g c = omega (
  arith,
  count_fits c.requires c.in-Some.is c.loop-cursor.invariant.inside c.loop-cursor.invariant,
)

pub next-cursor-requires : goal.next-cursor-requires
next-cursor-requires g c = node_below c.requires c.in-Some.is c.loop-cursor.invariant.inside

pub loop-cursor-preserved : goal.loop-cursor-preserved
loop-cursor-preserved g c =
    count_more c.requires c.in-Some.is c.loop-cursor.invariant.inside
    c.loop-cursor.invariant c.next-cursor.ensures.node
    (elim c.if-holds_at.branch [
      | then-holds_at w ↦ rw (sym c.holds_at.ensures ∙ w.if-holds_at.true) w.count-is
      | else-holds_at w ↦ rw (sym c.holds_at.ensures ∙ w.if-holds_at.false) (omega arith)
    ])

pub loop-cursor-smaller : goal.loop-cursor-smaller
loop-cursor-smaller g c =
    nearer c.requires c.in-Some.is c.loop-cursor.invariant.inside c.next-cursor.ensures.node
