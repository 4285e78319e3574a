use Rattle.std.proofs.Common.{length, ◌∙◌, ap}
use Rattle.irx_tables.specs.Exports.{functions}
use Rattle.iop_linker.proofs.Former.{count_stays}
use Rattle.iop_linker.proofs.binding.functions_at.Goals as goal

pub returns-clause-count : goal.returns-clause-count
returns-clause-count c =
    c.exports_count-count.ensures.count
    ∙ ap (λ ram. length (functions ram c.args.table)) c.ram.ensures.value
    ∙ count_stays c.args.text.from c.args.text.len c.args.guest.now c.args.table c.requires.1
    c.ram.ensures.sound
