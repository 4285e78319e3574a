use Rattle.iop_intr.proofs.PuttingBack.{put_back-all}
use Rattle.iop_intr.proofs.laws.lines_are_put_back.Goals as goal

pub returns : goal.returns
returns c = put_back-all
