use Rattle.iop_base.proofs.ChoosingLemmas.{best_is_first}
use Rattle.iop_base.proofs.laws.best_is_the_first_of_the_least.Goals as goal

pub returns : goal.returns
returns c = best_is_first
