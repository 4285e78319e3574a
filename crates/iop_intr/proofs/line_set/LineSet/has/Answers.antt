use Rattle.iop_base.proofs.Bits.{tested}
use Rattle.iop_intr.proofs.line_set.LineSet.has.Goals as goal

pub returns : goal.returns
returns c = rw (← c.self.view_is) (tested c.self.inside.bits c.args.line)
