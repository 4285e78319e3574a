use Rattle.std.proofs.Common.{◌≡◌, rules}
use Rattle.iop_ready.specs.Queues.{Queues, queues_of, Hold}
use Rattle.iop_ready.proofs.Holding.{CanJoin, can_join, hold-front}
use Rattle.iop_ready.proofs.queue_ready.QueueReadyReady.add_first.Goals as goal

pub push_front-requires-clause-free : goal.push_front-requires-clause-free
push_front-requires-clause-free c =
    let node : c.into.result ≡ c.args.slot = search rules in
    rw node
    (can_join c.self.view_is c.self.invariant c.queue_of.ensures.behind c.queue_of.ensures.below
    (search rules) (search rules) c.requires).free

pub returns : goal.returns
returns c xs h =
    let q : Queues = queues_of c.self.inside.queues c.self.inside.filled in
    let hold : Hold q xs = rw c.self.view_is h in
    let can : CanJoin c.args.slot c.queue_of.result c.args.priority q =
    can_join c.self.view_is c.self.invariant c.queue_of.ensures.behind c.queue_of.ensures.below
    (search rules) (search rules) c.requires in
    let node : c.into.result ≡ c.args.slot = search rules in
    rw (c.push_front.ensures.lists, node) (hold-front _ _ _ q can c.insert.new.self xs hold)
