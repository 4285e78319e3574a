use Rattle.std.proofs.Common.{◌≡◌, ◌+◌, ◌<◌, true, false, None, Some, is_some, rules}
use Rattle.iop_base.specs.Bits.{ChangesOnly}
use Rattle.iop_cblock.specs.Lists.{list_of, first_node}
use Rattle.iop_ready.specs.declared.priority.TheConstants.{LOWEST_PRIORITY}
use Rattle.iop_ready.specs.Queues.{Queues, queues_of, Hold}
use Rattle.iop_cblock.proofs.Reading.{holds-own}
use Rattle.iop_ready.proofs.Holding.{hold-without, hold-free}
use Rattle.iop_ready.proofs.Filling.{sound-emptied, sound-left}
use Rattle.iop_ready.proofs.queue_ready.QueueReadyReady.remove.Goals as goal

pub invariant_of-self : goal.invariant_of-self
invariant_of-self c =
    let q : Queues = queues_of c.self.inside.queues c.self.inside.filled in
    let below : c.in-Some.queue < LOWEST_PRIORITY = search rules in
    let found : list_of c.into-node.result q.arena ≡ Some c.in-Some.queue = search rules in
    let change : ChangesOnly q.bits c.remove.new.self (c.in-Some.queue + 1) false =
    rw (← c.priority_of.ensures) c.remove.ensures in
    let empty : is_some (first_node c.in-Some.queue c.unlink.new.self) ≡ false = search rules in
    sound-emptied q c.self.invariant c.into-node.result c.in-Some.queue below
    (holds-own c.into-node.result c.in-Some.queue q.arena found) c.unlink.new.self
    c.unlink.ensures.lists c.unlink.ensures.disjoint c.remove.new.self change empty

pub invariant_of-self-else-is_none : goal.invariant_of-self-else-is_none
invariant_of-self-else-is_none c =
    let q : Queues = queues_of c.self.inside.queues c.self.inside.filled in
    let below : c.in-Some.queue < LOWEST_PRIORITY = search rules in
    let found : list_of c.into-node.result q.arena ≡ Some c.in-Some.queue = search rules in
    let some : is_some (first_node c.in-Some.queue c.unlink.new.self) ≡ true = search rules in
    sound-left q c.self.invariant c.into-node.result c.in-Some.queue below
    (holds-own c.into-node.result c.in-Some.queue q.arena found) c.unlink.new.self
    c.unlink.ensures.lists c.unlink.ensures.disjoint some

pub returns-then-is_none : goal.returns-then-is_none
returns-then-is_none c xs h =
    let q : Queues = queues_of c.self.inside.queues c.self.inside.filled in
    let hold : Hold q xs = rw c.self.view_is h in
    let node : c.into-node.result ≡ c.args.slot = search rules in
    rw (c.unlink.ensures.lists, node) (hold-without c.args.slot q c.remove.new.self xs hold)

pub returns-else-is_none : goal.returns-else-is_none
returns-else-is_none c xs h =
    let q : Queues = queues_of c.self.inside.queues c.self.inside.filled in
    let hold : Hold q xs = rw c.self.view_is h in
    let node : c.into-node.result ≡ c.args.slot = search rules in
    rw (c.unlink.ensures.lists, node) (hold-without c.args.slot q c.self.inside.filled xs hold)

pub returns-in_default : goal.returns-in_default
returns-in_default c xs h =
    let q : Queues = queues_of c.self.inside.queues c.self.inside.filled in
    let hold : Hold q xs = rw c.self.view_is h in
    let free : list_of c.args.slot q.arena ≡ None = search rules in
    rw (← c.self.view_is) (hold-free c.args.slot q xs free hold)
