use Rattle.std.proofs.Common.{◌∙◌}
use Rattle.iop_queues.proofs.Takes.{own_is}
use Rattle.iop_queues.proofs.queues.Queues.walk.Goals as goal

pub returns : goal.returns
returns g c =
    let read = c.new.ensures in
    rw c.deref.ensures.value at read
    ∙ own_is c.self.invariant c.self.view_is c.args.queue c.requires
