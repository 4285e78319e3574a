use Rattle.iop_time.proofs.PuttingBack.{timers_come_back}
use Rattle.iop_time.proofs.laws.timers_come_back.Goals as goal

pub returns : goal.returns
returns c = timers_come_back
