use Rattle.std.proofs.Common.{◌≡◌}
use Rattle.iop_cblock.specs.Links.{first_owners}
use Rattle.iop_cblock.proofs.arena.owners.Given as goal

abbrev pub invariant-loop-list : goal.invariant-loop-list
invariant-loop-list l = l.table.items ≡ first_owners l.nodes l.list
