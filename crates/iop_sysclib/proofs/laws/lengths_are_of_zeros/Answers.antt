use Rattle.iop_sysclib.proofs.CallLaws.{lengths_are_of_zeros}
use Rattle.iop_sysclib.proofs.laws.lengths_are_of_zeros.Goals as goal

pub returns : goal.returns
returns c = lengths_are_of_zeros
