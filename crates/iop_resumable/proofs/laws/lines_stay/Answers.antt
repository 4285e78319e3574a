use Rattle.iop_resumable.proofs.Lines.{lines_stay}
use Rattle.iop_resumable.proofs.laws.lines_stay.Goals as goal

pub returns : goal.returns
returns c = lines_stay
