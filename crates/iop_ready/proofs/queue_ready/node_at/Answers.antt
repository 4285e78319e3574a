use Rattle.std.proofs.Common.{◌≡◌, ◌+◌, ◌<◌, ◌∙◌, sym, arith}
use Rattle.iop_cblock.specs.Lists.{list_at}
use Rattle.iop_ready.proofs.QueuePlaces.{head-first, next-at, none_behind}
use Rattle.iop_ready.proofs.queue_ready.node_at.Goals as goal

pub returns-in_err-node : goal.returns-in_err-node
returns-in_err-node c =
    let nodes = list_at c.args.list c.args.queues.now in
    let first = sym (head-first nodes) ∙ sym c.in_err-node.ensures.node in
    rw c.from_residual.ensures (record {
      node = sym (none_behind nodes 0 c.args.place first (omega arith));
      below = tt;
    })

pub loop-init : goal.loop-init
loop-init c = record {
  at = sym (head-first (list_at c.args.list c.args.queues.now)) ∙ sym c.in_ok-node.ensures.node;
  below = c.in_ok-node.ensures.below;
}

pub returns-in_err-node-2 : goal.returns-in_err-node-2
returns-in_err-node-2 c =
    let nodes = list_at c.args.list c.args.queues.now in
    let next =
    sym (next-at c.args.list c.args.queues.now c.requires.disjoint c.requires.list c.loop.counter
    c.loop.node c.loop.invariant.at)
    ∙ sym c.in_err-node-2.ensures.node in
    let past : c.loop.counter + 1 < c.args.place + 1 = omega (arith, c.loop-test.true) in
    rw c.from_residual-in_err-node-2.ensures (record {
      node = sym (none_behind nodes (c.loop.counter + 1) c.args.place next past);
      below = tt;
    })

pub loop-preserved : goal.loop-preserved
loop-preserved c = record {
  at = sym
      (next-at c.args.list c.args.queues.now c.requires.disjoint c.requires.list c.loop.counter
      c.loop.node c.loop.invariant.at)
      ∙ sym c.in_ok-node-2.ensures.node;
  below = c.in_ok-node-2.ensures.below;
}

pub returns : goal.returns
returns c =
    let all : c.loop.counter ≡ c.args.place =
    omega (arith, c.loop-test.false, c.loop.auto.counter-end) in
    record {
      node = sym (rw all at c.loop.invariant.at);
      below = c.loop.invariant.below;
    }
