use Rattle.iop_sysmem.proofs.Finding.{allocates}
use Rattle.iop_sysmem.proofs.laws.allocations_take_places.Goals as goal

pub returns : goal.returns
returns c = λ map mode size at blocks. allocates map blocks mode size at
