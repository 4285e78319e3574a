use Rattle.std.proofs.Common.{Some, arith, ap, sym, ◌∙◌}
use Rattle.std.proofs.lemmas.Option.{slice_get_past}
use Rattle.irx_tables.specs.Exports.{functions}
use Rattle.irx_tables.proofs.Exporting.{function_is}
use Rattle.irx_tables.proofs.export_tables.export_word.Goals as goal

pub returns-then-i-exports_count : goal.returns-then-i-exports_count
returns-then-i-exports_count c =
    ap Some c.word.ensures.value
    ∙ sym (function_is c.args.ram.now c.args.table c.args.i (omega arith))

pub returns-else-i-exports_count : goal.returns-else-i-exports_count
returns-else-i-exports_count c =
    sym (slice_get_past (functions c.args.ram.now c.args.table) c.args.i (omega arith))
