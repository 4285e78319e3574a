use Rattle.iop_cblock.proofs.Reading.{free-unlinked}
use Rattle.iop_queues.proofs.queues.set_free.Goals as goal

pub push_front-requires-clause-free : goal.push_front-requires-clause-free
push_front-requires-clause-free c =
    rw c.unlink.ensures.lists (free-unlinked c.args.node c.args.nodes.now)
