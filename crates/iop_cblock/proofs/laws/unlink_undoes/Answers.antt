use Rattle.iop_cblock.proofs.Undoing.{is_undone}
use Rattle.iop_cblock.proofs.laws.unlink_undoes.Goals as goal

pub returns : goal.returns
returns c node s free = is_undone node s free
