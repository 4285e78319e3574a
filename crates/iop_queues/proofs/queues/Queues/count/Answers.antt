use Rattle.std.proofs.Common.{◌∙◌, ap, length}
use Rattle.iop_queues.specs.Queues.{queue_at}
use Rattle.iop_queues.proofs.Conditions.{all_those}
use Rattle.iop_queues.proofs.queues.Queues.count.Goals as goal

pub returns-clause-count : goal.returns-clause-count
returns-clause-count g c =
    c.count_where.ensures.count ∙ ap length (all_those (queue_at c.args.queue c.args.self.now))
