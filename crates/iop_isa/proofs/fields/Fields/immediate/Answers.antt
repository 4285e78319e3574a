use Rattle.std.proofs.Common.{arith}
use Rattle.iop_isa.proofs.Formats.{immediate_held}
use Rattle.iop_isa.proofs.fields.Fields.immediate.Goals as goal

pub returns-clause-holds : goal.returns-clause-holds
returns-clause-holds c =
    immediate_held _ c.args.opcode c.args.self.rs c.args.self.rt c.args.self.imm
    (omega arith) (omega arith) (omega arith) (omega arith) (omega arith) (omega arith)
