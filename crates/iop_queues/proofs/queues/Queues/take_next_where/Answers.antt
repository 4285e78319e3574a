use Rattle.std.proofs.Common.{◌∙◌, ◌+◌, ◌<◌, Some, None, length, arith}
use Rattle.std.proofs.lemmas.List.{get_or_read}
use Rattle.iop_cblock.specs.Lists.{list_at}
use Rattle.iop_queues.specs.Queue.{chooses_next_where}
use Rattle.iop_queues.specs.Walks.{Finds, items_of}
use Rattle.iop_queues.proofs.Takes.{if_taken, taken_item, taken_left, taken_room, taken_some, taken_sound}
use Rattle.iop_queues.proofs.queues.Queues.take_next_where.Goals.{After-result-1}
use Rattle.iop_queues.proofs.queues.Queues.take_next_where.Goals as goal

found : (g : _) (c : After-result-1 g)
    → let own = list_at (c.args.queue + 1) c.self.inside.nodes in
    Finds c.self.inside.items.items own (Some c.in_ok-node.node)
    (chooses_next_where c.args.by_priority (g.C.Condition.holds_for c.args.condition.now)
    (items_of c.self.inside.items.items own))
found g c = let found = c.in_ok-node.ensures.node in rw c.deref.ensures.value at found

pub overflow_sub-self : goal.overflow_sub-self
overflow_sub-self g c =
    let p = g.C.Condition.holds_for c.args.condition.now in
    let found = c.in_ok-node.ensures.node in
    taken_some c.self.invariant c.self.view_is c.args.queue c.requires.queue (chooses_next_where c.args.by_priority p) _
    (rw c.deref.ensures.value at found)

pub invariant_of-self : goal.invariant_of-self
invariant_of-self g c =
    let p = g.C.Condition.holds_for c.args.condition.now in
    taken_sound c.self.invariant c.self.view_is c.args.queue c.requires.queue (chooses_next_where c.args.by_priority p) _
    (found g c) _ c.set_free.ensures.lists c.set_free.ensures.disjoint

pub returns-clause-item : goal.returns-clause-item
returns-clause-item g c =
    let p = g.C.Condition.holds_for c.args.condition.now in
    let h = c.self.invariant in
    let below : c.in_ok-node.node < length c.self.inside.items.items =
    omega (arith, c.in_ok-node.ensures.below, h.nodes_are, h.items_are) in
    get_or_read c.self.inside.items.items _ _ below c.index.ensures None
    ∙ taken_item h c.self.view_is c.args.queue c.requires.queue (chooses_next_where c.args.by_priority p) _ (found g c)

pub returns-clause-left : goal.returns-clause-left
returns-clause-left g c =
    let p = g.C.Condition.holds_for c.args.condition.now in
    taken_left c.self.invariant c.self.view_is c.args.queue c.requires.queue (chooses_next_where c.args.by_priority p) _
    (found g c) _ c.set_free.ensures.lists

pub returns-clause-room : goal.returns-clause-room
returns-clause-room g c =
    let p = g.C.Condition.holds_for c.args.condition.now in
    if_taken _
    (taken_room c.self.invariant c.self.view_is c.args.queue c.requires.queue (chooses_next_where c.args.by_priority p) _
    (found g c) _ c.set_free.ensures.lists c.set_free.ensures.disjoint)
