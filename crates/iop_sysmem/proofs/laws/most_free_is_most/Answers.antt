use Rattle.iop_sysmem.proofs.MostFree.{most_free-most}
use Rattle.iop_sysmem.proofs.laws.most_free_is_most.Goals as goal

pub returns : goal.returns
returns c = most_free-most
