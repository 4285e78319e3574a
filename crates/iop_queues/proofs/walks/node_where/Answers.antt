use Rattle.std.proofs.Common.{◌∙◌, sym}
use Rattle.iop_queues.proofs.Finding.{chooses_where-none}
use Rattle.iop_queues.proofs.Steps.{node_below, item_below, nearer, none_more, none_until}
use Rattle.iop_queues.proofs.walks.node_where.Goals as goal

pub holds_at-requires : goal.holds_at-requires
holds_at-requires g c = item_below c.requires c.in-Some.is c.loop-cursor.invariant.inside

pub returns-then-holds_at : goal.returns-then-holds_at
returns-then-holds_at g c = record {
  node = none_until c.requires c.in-Some.is c.loop-cursor.invariant.inside
      c.loop-cursor.invariant (sym c.holds_at.ensures ∙ c.if-holds_at.true);
  below = node_below c.requires c.in-Some.is c.loop-cursor.invariant.inside;
}

pub next-cursor-requires : goal.next-cursor-requires
next-cursor-requires g c = node_below c.requires c.in-Some.is c.loop-cursor.invariant.inside

pub loop-cursor-preserved : goal.loop-cursor-preserved
loop-cursor-preserved g c =
    none_more c.requires c.in-Some.is c.loop-cursor.invariant.inside
    c.loop-cursor.invariant c.next-cursor.ensures.node
    (sym c.holds_at.ensures ∙ c.if-holds_at.false)

pub loop-cursor-smaller : goal.loop-cursor-smaller
loop-cursor-smaller g c =
    nearer c.requires c.in-Some.is c.loop-cursor.invariant.inside c.next-cursor.ensures.node

pub returns : goal.returns
returns g c = record {
  node = chooses_where-none _ _ (rw c.in_default.is at c.loop-cursor.invariant.none);
  below = tt;
}
