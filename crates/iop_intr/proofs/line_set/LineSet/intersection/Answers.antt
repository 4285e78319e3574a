use Rattle.iop_base.proofs.Bits.{has-and}
use Rattle.iop_intr.proofs.line_set.LineSet.intersection.Goals as goal

pub returns : goal.returns
returns c =
    rw (← c.self.view_is, ← c.other.view_is) (has-and c.self.inside.bits c.other.inside.bits)
