use Rattle.iop_resumable_runs.proofs.Resuming.{resumable_machines_are_read}
use Rattle.iop_resumable_runs.proofs.laws.resumable_machines_are_read.Goals as goal

pub returns : goal.returns
returns c = resumable_machines_are_read
