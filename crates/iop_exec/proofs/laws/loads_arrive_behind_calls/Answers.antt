use Rattle.iop_exec.proofs.LoadDelays.{loads_arrive_behind_calls}
use Rattle.iop_exec.proofs.laws.loads_arrive_behind_calls.Goals as goal

pub returns : goal.returns
returns c = loads_arrive_behind_calls
