use Rattle.std.proofs.Common.{rules}
use Rattle.iop_cblock.proofs.Fresh.{first_owners-more}
use Rattle.iop_cblock.proofs.arena.owners.Goals as goal

pub loop-list-preserved : goal.loop-list-preserved
loop-list-preserved c = rw (first_owners-more c.args.nodes c.loop-list.list) (search rules)
