use Rattle.iop_machine.proofs.Landing.{stubs_leave_with_their_line}
use Rattle.iop_machine.proofs.laws.stubs_leave_with_their_line.Goals as goal

pub returns : goal.returns
returns c = stubs_leave_with_their_line
