use Rattle.iop_cblock.proofs.Placing.{is_placed}
use Rattle.iop_cblock.proofs.laws.pushes_place.Goals as goal

pub returns : goal.returns
returns c node s free = is_placed node s free
