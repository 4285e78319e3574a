use Rattle.iop_exec.proofs.LoadDelays.{loads_arrive}
use Rattle.iop_exec.proofs.laws.loads_arrive.Goals as goal

pub returns : goal.returns
returns c = loads_arrive
