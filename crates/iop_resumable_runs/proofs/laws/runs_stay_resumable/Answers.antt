use Rattle.iop_resumable_runs.proofs.Resuming.{runs_stay_resumable}
use Rattle.iop_resumable_runs.proofs.laws.runs_stay_resumable.Goals as goal

pub returns : goal.returns
returns c = runs_stay_resumable c.loads_begin.ensures c.loads_arrive.ensures
