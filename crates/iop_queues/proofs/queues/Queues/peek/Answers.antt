use Rattle.std.proofs.Common.{◌∙◌, ◌<◌, None, length, arith}
use Rattle.std.proofs.lemmas.List.{get_or_read}
use Rattle.iop_queues.specs.Queue.{chooses}
use Rattle.iop_queues.proofs.Takes.{taken_item}
use Rattle.iop_queues.proofs.queues.Queues.peek.Goals as goal

pub returns : goal.returns
returns g c =
    let h = c.self.invariant in
    let found = c.in_ok-node.ensures.node in
    let below : c.in_ok-node.node < length c.self.inside.items.items =
    omega (arith, c.in_ok-node.ensures.below, h.nodes_are, h.items_are) in
    get_or_read c.self.inside.items.items _ _ below c.index.ensures None
    ∙ taken_item h c.self.view_is c.args.queue c.requires (chooses c.args.by_priority) _
    (rw c.deref.ensures.value at found)
