use Rattle.iop_registry.proofs.PuttingBack.{put_back-all}
use Rattle.iop_registry.proofs.laws.registries_are_put_back.Goals as goal

pub returns : goal.returns
returns c = put_back-all
