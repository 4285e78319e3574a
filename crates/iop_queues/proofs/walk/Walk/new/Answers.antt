use Rattle.iop_queues.proofs.Steps.{IsWalk-first, all_ahead}
use Rattle.iop_queues.proofs.walk.Walk.new.Goals as goal

pub invariant_of-result : goal.invariant_of-result
invariant_of-result g c =
    IsWalk-first c.args.items.now c.args.nodes.now c.args.list c.first-cursor.ensures.node
    c.requires

pub returns : goal.returns
returns g c =
    all_ahead c.args.items.now c.args.nodes.now c.args.list c.first-cursor.ensures.node
