use Rattle.std.proofs.Common.{◌≡◌, ◌∙◌, is_some, rules}
use Rattle.iop_cblock.specs.Lists.{list_of}
use Rattle.iop_ready.specs.Queues.{Queues, queues_of, Hold}
use Rattle.iop_ready.proofs.QueuePlaces.{hold-listed}
use Rattle.iop_ready.proofs.queue_ready.QueueReadyReady.contains.Goals as goal

pub returns : goal.returns
returns c xs h =
    let q : Queues = queues_of c.self.inside.queues c.self.inside.filled in
    let hold : Hold q xs = rw c.self.view_is h in
    let node : c.into.result ≡ c.args.slot = search rules in
    let own : c.is_some.result ≡ is_some (list_of c.args.slot q.arena) =
    rw (← node) (search rules) in
    own ∙ hold-listed q xs hold c.args.slot
