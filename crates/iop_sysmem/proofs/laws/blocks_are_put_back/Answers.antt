use Rattle.iop_sysmem.proofs.PuttingBack.{put_back-all}
use Rattle.iop_sysmem.proofs.laws.blocks_are_put_back.Goals as goal

pub returns : goal.returns
returns c = put_back-all
