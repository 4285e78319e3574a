use Rattle.std.proofs.Common.{◌∙◌, arith, sym}
use Rattle.irx_tables.proofs.Stubs.{stubs_end, stubs_break, stubs_run_out}
use Rattle.irx_tables.proofs.import_tables.count_stubs.Goals as goal

pub returns-in-Zeroes-clause-count : goal.returns-in-Zeroes-clause-count
returns-in-Zeroes-clause-count c =
    stubs_end c.args.ram.now c.args.stop c.args.first c.loop-count.count c.loop-count.invariant
    (omega arith)
    (sym c.read_pair.ensures ∙ c.in-Zeroes.is)

pub returns-in-Other-clause-count : goal.returns-in-Other-clause-count
returns-in-Other-clause-count c =
    stubs_break c.args.ram.now c.args.stop c.args.first c.loop-count.count c.loop-count.invariant
    (omega arith)
    (sym c.read_pair.ensures ∙ c.in-Other.is)

pub returns-clause-count : goal.returns-clause-count
returns-clause-count c =
    stubs_run_out c.args.ram.now c.args.stop c.args.first c.loop-count.count c.loop-count.invariant
    (omega arith)
