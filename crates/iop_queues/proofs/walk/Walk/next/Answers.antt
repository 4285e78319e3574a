use Rattle.iop_queues.proofs.Steps.{node_below, item_below, IsWalk-next, reads_next}
use Rattle.iop_queues.proofs.walk.Walk.next.Goals as goal

pub next-self-inside-requires : goal.next-self-inside-requires
next-self-inside-requires g c =
    node_below c.self.invariant.list_can c.in_ok-node.was c.self.invariant.inside

pub item-requires : goal.item-requires
item-requires g c =
    item_below c.self.invariant.list_can c.in_ok-node.was c.self.invariant.inside

pub invariant_of-self : goal.invariant_of-self
invariant_of-self g c =
    IsWalk-next c.self.invariant.list_can c.in_ok-node.was c.self.invariant.inside
    c.next-self-inside.ensures.node

pub returns : goal.returns
returns g c =
    reads_next c.self.invariant.list_can c.in_ok-node.was c.self.invariant.inside c.self.view_is
    c.next-self-inside.ensures.node c.item.ensures
