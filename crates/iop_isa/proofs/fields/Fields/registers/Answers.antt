use Rattle.std.proofs.Common.{arith}
use Rattle.iop_isa.proofs.Formats.{registers_held}
use Rattle.iop_isa.proofs.fields.Fields.registers.Goals as goal

pub returns-clause-holds : goal.returns-clause-holds
returns-clause-holds c =
    registers_held _ c.args.function
    c.args.self.rs c.args.self.rt c.args.self.rd c.args.self.sa
    (omega arith) (omega arith) (omega arith) (omega arith) (omega arith) (omega arith)
