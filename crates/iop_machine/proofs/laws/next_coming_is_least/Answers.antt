use Rattle.iop_machine.proofs.Coming.{next_coming_is_least}
use Rattle.iop_machine.proofs.laws.next_coming_is_least.Goals as goal

pub returns : goal.returns
returns c = next_coming_is_least
