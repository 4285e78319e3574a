use Rattle.std.proofs.Common.{arith}
use Rattle.iop_isa.proofs.Formats.{code_held}
use Rattle.iop_isa.proofs.fields.Fields.code.Goals as goal

pub returns-clause-holds : goal.returns-clause-holds
returns-clause-holds c =
    let word = rw c.zeros.ensures at c.word.ensures in
    code_held _ c.args.function c.args.self.n (omega arith) (omega arith) (omega (arith, word))
