use Rattle.iop_sysclib.proofs.OutcomeLaws.{outcomes_are_told}
use Rattle.iop_sysclib.proofs.laws.outcomes_are_told.Goals as goal

pub returns : goal.returns
returns c = outcomes_are_told
