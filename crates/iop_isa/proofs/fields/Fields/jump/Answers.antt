use Rattle.std.proofs.Common.{arith}
use Rattle.iop_isa.proofs.Formats.{jump_held}
use Rattle.iop_isa.proofs.fields.Fields.jump.Goals as goal

pub returns-clause-holds : goal.returns-clause-holds
returns-clause-holds c =
    let word = rw c.zeros.ensures at c.word.ensures in
    jump_held _ c.args.opcode c.args.self.target
    (omega arith) (omega arith) (omega arith) (omega (arith, word))
