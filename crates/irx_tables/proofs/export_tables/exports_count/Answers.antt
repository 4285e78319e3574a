use Rattle.std.proofs.Common.{arith, eq-eqb, sym, ◌∙◌}
use Rattle.irx_tables.proofs.Exporting.{functions_are}
use Rattle.irx_tables.proofs.export_tables.exports_count.Goals as goal

pub returns-then-word-eq0-clause-count : goal.returns-then-word-eq0-clause-count
returns-then-word-eq0-clause-count c =
    functions_are c.args.ram.now c.args.table c.loop-index.index
    (omega arith) c.loop-index.invariant
    (λ _. eq-eqb _ _ (sym c.word.ensures.value ∙ c.if-word-eq0.true))

pub returns-clause-count : goal.returns-clause-count
returns-clause-count c =
    functions_are c.args.ram.now c.args.table c.min-words.result (omega arith)
    (λ j lt. c.loop-index.invariant j (omega arith))
    (λ lt. absurd (omega arith))
