use Rattle.iop_intr.proofs.Changing.{results_enable_or_disable}
use Rattle.iop_intr.proofs.laws.results_enable_or_disable.Goals as goal

pub returns : goal.returns
returns c = results_enable_or_disable
