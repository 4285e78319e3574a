use Rattle.std.proofs.Common.{arith}
use Rattle.irx_tables.proofs.Starts.{start_read, no_start}
use Rattle.irx_tables.proofs.import_tables.find_start.Goals as goal

pub returns-then-words-eq0-clause-start : goal.returns-then-words-eq0-clause-start
returns-then-words-eq0-clause-start c =
    no_start c.args.ram.now c.args.stop c.args.scan (λ j lt. absurd (omega arith))

pub returns-then-second-eq0-clause-start : goal.returns-then-second-eq0-clause-start
returns-then-second-eq0-clause-start c =
    let loop = c.loop-index in
    start_read c.args.ram.now c.args.stop c.args.scan loop.index loop.first c.word-second.result
    (record {
      behind = omega arith;
      inside = omega arith;
      no_start = loop.invariant.no_start;
      first_word = loop.invariant.first;
      second_word = c.word-second.ensures.value;
    })
    c.if-first-eq-IMPORT_MAGIC.true c.if-second-eq0.true

pub returns-clause-start : goal.returns-clause-start
returns-clause-start c =
    no_start c.args.ram.now c.args.stop c.args.scan
    (λ j lt. c.loop-index.invariant.no_start j (omega arith))
