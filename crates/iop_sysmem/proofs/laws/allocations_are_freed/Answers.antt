use Rattle.iop_sysmem.proofs.Freed.{freeing-allocated}
use Rattle.iop_sysmem.proofs.laws.allocations_are_freed.Goals as goal

pub returns : goal.returns
returns c = λ map mode size at blocks. freeing-allocated map blocks mode size at
