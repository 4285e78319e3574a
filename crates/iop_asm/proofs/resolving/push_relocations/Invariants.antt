use Rattle.std.proofs.Common.{◌≡◌, ◌++◌, List, take}
use Rattle.iop_asm.specs.declared.labels.Labels.{Labels}
use Rattle.iop_asm.specs.Assembly.{cells_relocations}
use Rattle.iop_asm.specs.Cells.{Cell}
use Rattle.iop_asm.specs.NumberedCells.{AreCells}
use Rattle.iop_asm.proofs.resolving.push_relocations.Given as goal

abbrev pub invariant-loop-index : goal.invariant-loop-index
invariant-loop-index l = (labels : Labels) (list : List Cell) → AreCells labels l.cells list →
    l.relocations.items ≡ l.initial.relocations.items ++ cells_relocations l.behind (take l.index list)
