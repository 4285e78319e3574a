use Rattle.iop_sysclib.proofs.CallWritings.{writes_are_read}
use Rattle.iop_sysclib.proofs.laws.writes_are_read.Goals as goal

pub returns : goal.returns
returns c = writes_are_read
