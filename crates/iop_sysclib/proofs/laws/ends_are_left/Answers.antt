use Rattle.iop_sysclib.proofs.EndLaws.{ends_are_left}
use Rattle.iop_sysclib.proofs.laws.ends_are_left.Goals as goal

pub returns : goal.returns
returns c = ends_are_left
