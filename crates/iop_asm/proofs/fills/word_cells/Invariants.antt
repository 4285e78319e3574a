use Rattle.std.proofs.Common.{◌≡◌, drop, map}
use Rattle.iop_asm.specs.CellFields.{cells}
use Rattle.iop_asm.specs.Texts.{all_of}
use Rattle.iop_asm.specs.Values.{view}
use Rattle.iop_asm.proofs.FillLemmas.{fitting_cell}
use Rattle.iop_asm.proofs.AllLemmas.{read_on}
use Rattle.iop_asm.proofs.fills.word_cells.Given as goal

abbrev pub invariant-loop-value : goal.invariant-loop-value
invariant-loop-value l =
    read_on (λ value. fitting_cell l.line (view value)) (cells l.cells.items)
    (drop l.value-index l.values)
    ≡ all_of (map (λ value. fitting_cell l.line (view value)) l.values)
