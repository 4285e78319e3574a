use Rattle.std.proofs.Common.{arith}
use Rattle.iop_intr.proofs.Calls.{lowers}
use Rattle.iop_intr.proofs.irqs.Irqs.lower.Goals as goal

pub returns : goal.returns
returns c = lowers c.self.inside c.self.view_is c.args.line (omega arith) _ c.remove.ensures
