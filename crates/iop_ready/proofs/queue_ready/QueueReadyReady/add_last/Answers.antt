use Rattle.std.proofs.Common.{◌≡◌, rules}
use Rattle.iop_ready.specs.Queues.{Queues, queues_of, Hold}
use Rattle.iop_ready.proofs.Holding.{CanJoin, can_join, hold-back}
use Rattle.iop_ready.proofs.queue_ready.QueueReadyReady.add_last.Goals as goal

pub push_back-requires-clause-free : goal.push_back-requires-clause-free
push_back-requires-clause-free c =
    let node : c.into.result ≡ c.args.slot = search rules in
    rw node
    (can_join c.self.view_is c.self.invariant c.queue_of.ensures.behind c.queue_of.ensures.below
    (search rules) (search rules) c.requires).free

pub returns : goal.returns
returns c xs h =
    let q : Queues = queues_of c.self.inside.queues c.self.inside.filled in
    let hold : Hold q xs = rw c.self.view_is h in
    let can : CanJoin c.args.slot c.queue_of.result c.args.priority q =
    can_join c.self.view_is c.self.invariant c.queue_of.ensures.behind c.queue_of.ensures.below
    (search rules) (search rules) c.requires in
    let node : c.into.result ≡ c.args.slot = search rules in
    rw (c.push_back.ensures.lists, node) (hold-back _ _ _ q can c.insert.new.self xs hold)
