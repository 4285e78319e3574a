use Rattle.std.proofs.Common.{◌≡◌}
use Rattle.iop_asm.specs.CellFields.{cells}
use Rattle.iop_asm.proofs.FillLemmas.{first_cells}
use Rattle.iop_asm.proofs.fills.byte_cells.Given as goal

abbrev pub invariant-loop-index : goal.invariant-loop-index
invariant-loop-index l = cells l.cells.items ≡ first_cells l.bytes l.index
