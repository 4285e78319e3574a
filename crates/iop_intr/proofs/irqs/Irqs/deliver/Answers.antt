use Rattle.std.proofs.Common.{arith}
use Rattle.iop_intr.proofs.Calls.{its_handler_is, delivers}
use Rattle.iop_intr.proofs.irqs.Irqs.deliver.Goals as goal

pub returns-clause-handler : goal.returns-clause-handler
returns-clause-handler c =
    its_handler_is c.self.inside c.self.view_is c.args.line (omega arith) c.self.invariant
    c.requires.is _

pub returns-clause-lines : goal.returns-clause-lines
returns-clause-lines c =
    delivers c.self.inside c.self.view_is c.args.line (omega arith) _ _ c.remove.ensures
    c.remove-2.ensures
