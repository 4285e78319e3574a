use Rattle.std.proofs.Common.{◌≡◌, ◌∙◌, None, rules}
use Rattle.iop_ready.specs.Queues.{Queues, queues_of, Hold}
use Rattle.iop_ready.proofs.BestQueue.{best_of_none, best_of_some}
use Rattle.iop_ready.proofs.queue_ready.QueueReadyReady.best.Goals as goal

pub returns-in_err-best : goal.returns-in_err-best
returns-in_err-best c xs h =
    let q : Queues = queues_of c.self.inside.queues c.self.inside.filled in
    let hold : Hold q xs = rw c.self.view_is h in
    let none : c.from_residual.result ≡ None = search rules in
    none ∙ best_of_none q c.self.invariant xs hold c.in_err-best.ensures

pub returns : goal.returns
returns c xs h =
    let q : Queues = queues_of c.self.inside.queues c.self.inside.filled in
    let hold : Hold q xs = rw c.self.view_is h in
    let first = c.first_of.ensures in
    rw (← c.self.view_is) at first
    ∙ best_of_some q c.self.invariant xs hold c.in_ok-best.field-0 (search rules)
    c.in_ok-best.ensures
