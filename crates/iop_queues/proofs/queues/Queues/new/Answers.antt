use Rattle.std.proofs.Common.{◌≡◌, ◌∙◌, ap, arith}
use Rattle.iop_cblock.specs.Lists.{pushed_back}
use Rattle.iop_queues.proofs.Fresh.{filling, filling_free, filling_more, filling_none, queues-new, sound-new}
use Rattle.iop_queues.proofs.queues.Queues.new.Goals.{In_ok-items}
use Rattle.iop_queues.proofs.queues.Queues.new.Goals as goal

pub loop-node-init : goal.loop-node-init
loop-node-init g c = (
  c.in_ok-nodes.ensures.lists ∙ filling_none g.row.ROOM c.args.queues,
  c.in_ok-nodes.ensures.disjoint,
)

pub push_back-requires-clause-free : goal.push_back-requires-clause-free
push_back-requires-clause-free g c =
    rw c.loop-node.invariant.0 (filling_free g.row.ROOM c.args.queues c.loop-node.node)

pub loop-node-preserved : goal.loop-node-preserved
loop-node-preserved g c = (
  c.push_back.ensures.lists
      ∙ ap (pushed_back 0 c.loop-node.node) c.loop-node.invariant.0
      ∙ filling_more g.row.ROOM c.args.queues c.loop-node.node,
  c.push_back.ensures.disjoint,
)

full : (g : _) (c : In_ok-items g) → c.loop-node.nodes ≡ filling g.row.ROOM c.args.queues g.row.ROOM
full g c =
    c.loop-node.invariant.0
    ∙ ap (filling g.row.ROOM c.args.queues)
    (omega (arith, c.loop-node-test.false, c.loop-node.auto.node-end))

pub invariant_of-result : goal.invariant_of-result
invariant_of-result g c =
    sound-new g.row.ROOM c.args.queues _ _ (full g c)
    (omega (arith, c.in_ok-items.ensures.len)) c.requires c.loop-node.invariant.1

pub returns : goal.returns
returns g c = queues-new g.row.ROOM c.args.queues _ _ (full g c)
