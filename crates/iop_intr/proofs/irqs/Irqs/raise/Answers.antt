use Rattle.std.proofs.Common.{arith}
use Rattle.iop_intr.proofs.Calls.{raises}
use Rattle.iop_intr.proofs.irqs.Irqs.raise.Goals as goal

pub returns : goal.returns
returns c = raises c.self.inside c.self.view_is c.args.line (omega arith) _ c.insert.ensures
