use Rattle.iop_resumable_runs.proofs.Resuming.{runs_begin_resumable}
use Rattle.iop_resumable_runs.proofs.laws.runs_begin_resumable.Goals as goal

pub returns : goal.returns
returns c = runs_begin_resumable
