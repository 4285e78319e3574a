use Rattle.std.proofs.Common.{◌≡◌, ◌∙◌, None, Some, ap, sym, arith, rules}
use Rattle.iop_ready.specs.Queues.{Queues, queues_of, Hold}
use Rattle.iop_ready.proofs.QueuePlaces.{hold-at}
use Rattle.iop_ready.proofs.queue_ready.QueueReadyReady.at.Goals as goal

pub node_at-requires : goal.node_at-requires
node_at-requires c = record {
  list = omega (arith, c.queue_of.ensures.below, c.self.invariant.lists);
  disjoint = c.self.invariant.disjoint;
}

pub returns-in_err-node : goal.returns-in_err-node
returns-in_err-node c xs h =
    let q : Queues = queues_of c.self.inside.queues c.self.inside.filled in
    let hold : Hold q xs = rw c.self.view_is h in
    let none : c.from_residual.result ≡ None = search rules in
    none ∙ sym c.in_err-node.was ∙ c.node_at.ensures.node
    ∙ hold-at q xs hold c.queue_of.result c.args.priority c.args.place c.queue_of.ensures.behind

pub returns : goal.returns
returns c xs h =
    let q : Queues = queues_of c.self.inside.queues c.self.inside.filled in
    let hold : Hold q xs = rw c.self.view_is h in
    ap Some c.new.ensures ∙ c.in_ok-node.ensures.node
    ∙ hold-at q xs hold c.queue_of.result c.args.priority c.args.place c.queue_of.ensures.behind
