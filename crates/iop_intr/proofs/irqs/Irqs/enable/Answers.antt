use Rattle.std.proofs.Common.{arith}
use Rattle.iop_intr.proofs.Calls.{lines_of, enables}
use Rattle.iop_intr.proofs.irqs.Irqs.enable.Goals as goal

pub returns-clause-lines : goal.returns-clause-lines
returns-clause-lines c =
    lines_of (enables c.self.inside c.self.view_is c.args.line (omega arith) _ c.insert.ensures)
