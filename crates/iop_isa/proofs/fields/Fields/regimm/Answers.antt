use Rattle.std.proofs.Common.{arith}
use Rattle.iop_isa.proofs.Formats.{regimm_held}
use Rattle.iop_isa.proofs.fields.Fields.regimm.Goals as goal

pub returns-clause-holds : goal.returns-clause-holds
returns-clause-holds c =
    regimm_held _ c.args.rt c.args.self.rs c.args.self.imm
    (omega arith) (omega arith) (omega arith) (omega arith)
