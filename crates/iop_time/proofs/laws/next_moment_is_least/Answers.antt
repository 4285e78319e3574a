use Rattle.iop_time.proofs.Nexts.{next_moment_is_least}
use Rattle.iop_time.proofs.laws.next_moment_is_least.Goals as goal

pub returns : goal.returns
returns c = next_moment_is_least
