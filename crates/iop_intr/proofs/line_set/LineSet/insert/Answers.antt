use Rattle.std.proofs.Common.{w64}
use Rattle.iop_base.proofs.Bits.{inserted}
use Rattle.iop_intr.proofs.line_set.LineSet.insert.Goals as goal

pub returns : goal.returns
returns c = rw (← c.self.view_is) (inserted w64 c.self.inside.bits c.args.line c.requires)
