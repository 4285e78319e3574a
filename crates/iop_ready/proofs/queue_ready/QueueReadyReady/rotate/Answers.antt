use Rattle.std.proofs.Common.{◌≡◌, ◌∙◌, Some, ap, arith, rules}
use Rattle.iop_cblock.specs.Lists.{first_node, pushed_back, unlinked}
use Rattle.iop_ready.specs.Queues.{Queues, queues_of, Hold}
use Rattle.iop_cblock.proofs.Reading.{free-unlinked, held-head}
use Rattle.iop_ready.proofs.Holding.{hold-rotated, hold-unrotated}
use Rattle.iop_ready.proofs.Filling.{sound-rotated}
use Rattle.iop_ready.proofs.queue_ready.QueueReadyReady.rotate.Goals.{After-push_back}
use Rattle.iop_ready.proofs.queue_ready.QueueReadyReady.rotate.Goals as goal

pub push_back-requires-clause-free : goal.push_back-requires-clause-free
push_back-requires-clause-free c =
    rw c.unlink.ensures.lists (free-unlinked c.in-Some.node c.self.inside.queues)

abbrev own : After-push_back → Queues
own c = queues_of c.self.inside.queues c.self.inside.filled

first : (c : After-push_back)
    → first_node c.queue_of-queue.result c.self.inside.queues ≡ Some c.in-Some.node
first c = search rules

left : (c : After-push_back) → c.push_back.new.self
    ≡ pushed_back c.queue_of-queue.result c.in-Some.node
    (unlinked c.in-Some.node c.self.inside.queues)
left c =
    c.push_back.ensures.lists
    ∙ ap (pushed_back c.queue_of-queue.result c.in-Some.node) c.unlink.ensures.lists

pub invariant_of-self : goal.invariant_of-self
invariant_of-self c =
    sound-rotated (own c) c.self.invariant c.in-Some.node c.queue_of-queue.result
    c.queue_of-queue.ensures.below (held-head _ _ (first c)) _ (left c) c.push_back.ensures.disjoint

pub returns-in-Some : goal.returns-in-Some
returns-in-Some c xs h =
    let hold : Hold (own c) xs = rw c.self.view_is h in
    rw (left c)
    (hold-rotated (own c) xs hold _ _ c.queue_of-queue.ensures.behind c.in-Some.node (first c)
    (omega (arith, c.queue_of-queue.ensures.below, c.self.invariant.lists)) c.self.inside.filled)

pub returns-in_default : goal.returns-in_default
returns-in_default c xs h =
    let q : Queues = queues_of c.self.inside.queues c.self.inside.filled in
    let hold : Hold q xs = rw c.self.view_is h in
    rw (← c.self.view_is)
    (hold-unrotated q xs hold _ _ c.queue_of-queue.ensures.behind (search rules))
