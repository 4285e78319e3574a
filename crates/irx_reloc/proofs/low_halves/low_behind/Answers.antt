use Rattle.std.proofs.Common.{arith}
use Rattle.irx_reloc.proofs.Rows.{entry_inside}
use Rattle.irx_reloc.proofs.low_halves.low_behind.Goals as goal

pub overflow_add-index : goal.overflow_add-index
overflow_add-index c = grind (arith, entry_inside c.args.section.now c.args.index c.requires.inside)
