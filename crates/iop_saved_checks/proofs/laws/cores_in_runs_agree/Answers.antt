use Rattle.iop_saved_checks.proofs.Cores.{cores_agree}
use Rattle.iop_saved_checks.proofs.laws.cores_in_runs_agree.Goals as goal

pub returns : goal.returns
returns c = cores_agree
