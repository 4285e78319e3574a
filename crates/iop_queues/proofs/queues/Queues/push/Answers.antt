use Rattle.std.proofs.Common.{◌≡◌, ◌∙◌, ◌+◌, ◌<◌, [], ◌∷◌, ◌++◌, set, None, Some, length, ap, arith, rules}
use Rattle.iop_cblock.specs.Lists.{head, list_at, pushed_back, unlinked}
use Rattle.iop_cblock.proofs.Reading.{free-unlinked}
use Rattle.iop_queues.specs.Nodes.{queues_in}
use Rattle.iop_queues.specs.Queues.{queue_at, total, with_queue}
use Rattle.iop_queues.proofs.Puts.{not_full, queues-put, sound-put}
use Rattle.iop_queues.proofs.queues.Queues.push.Goals.{After-self-in-Some-1}
use Rattle.iop_queues.proofs.queues.Queues.push.Goals as goal

pub push_back-requires-clause-free : goal.push_back-requires-clause-free
push_back-requires-clause-free g c =
    rw c.unlink.ensures.lists (free-unlinked c.in-Some.node c.self.inside.nodes)

below : (g : _) (c : After-self-in-Some-1 g)
    → c.args.queue < length (queues_in c.self.inside.items.items c.self.inside.nodes.lists)
below g c = omega (arith, ap length c.self.view_is, c.requires.queue)

left : (g : _) (c : After-self-in-Some-1 g)
    → c.push_back.new.self
    ≡ pushed_back (c.args.queue + 1) c.in-Some.node (unlinked c.in-Some.node c.self.inside.nodes)
left g c =
    c.push_back.ensures.lists
    ∙ ap (pushed_back (c.args.queue + 1) c.in-Some.node) c.unlink.ensures.lists

first : (g : _) (c : After-self-in-Some-1 g)
    → head (list_at 0 c.self.inside.nodes) ≡ Some c.in-Some.node
first g c = search rules

fits : (g : _) (c : After-self-in-Some-1 g) → c.in-Some.node < length c.self.inside.items.items
fits g c =
    omega (arith, c.in-Some.ensures.below, c.self.invariant.nodes_are, c.self.invariant.items_are)

pub invariant_of-self : goal.invariant_of-self
invariant_of-self g c =
    let disjoint = c.push_back.ensures.disjoint in
    rw (left g c)
    (sound-put _ _ _ _ c.self.invariant c.args.queue (below g c) c.in-Some.node c.args.queued
    (first g c) (fits g c) (rw (left g c) at disjoint))

pub returns-in-Some : goal.returns-in-Some
returns-in-Some g c =
    ap (λ s. queues_in (set c.self.inside.items.items c.in-Some.node (Some c.args.queued)) s.lists)
    (left g c)
    ∙ queues-put _ _ _ _ c.self.invariant c.args.queue (below g c) c.in-Some.node c.args.queued
    (first g c) (fits g c)
    ∙ ap (λ now. with_queue c.args.queue (queue_at c.args.queue now ++ c.args.queued ∷ []) now)
    c.self.view_is

pub returns-in_default : goal.returns-in_default
returns-in_default g c =
    let none : head (list_at 0 c.self.inside.nodes) ≡ None = search rules in
    absurd (not_full _ _ _ _ c.self.invariant
    (omega (arith, c.requires.room, ap total c.self.view_is)) none)
