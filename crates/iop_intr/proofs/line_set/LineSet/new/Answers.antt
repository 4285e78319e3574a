use Rattle.iop_base.proofs.Bits.{has-none}
use Rattle.iop_intr.proofs.line_set.LineSet.new.Goals as goal

pub returns : goal.returns
returns c = has-none
