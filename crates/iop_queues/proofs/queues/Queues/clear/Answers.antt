use Rattle.std.proofs.Common.{◌∙◌, ap, []}
use Rattle.iop_queues.specs.Queues.{with_queue}
use Rattle.iop_queues.proofs.Beside.{stay-with}
use Rattle.iop_queues.proofs.queues.Queues.clear.Goals as goal

pub loop-preserved : goal.loop-preserved
loop-preserved g c =
    ap (with_queue c.args.queue []) c.take.ensures.left
    ∙ stay-with c.args.queue _ c.loop.self ∙ c.loop.invariant
