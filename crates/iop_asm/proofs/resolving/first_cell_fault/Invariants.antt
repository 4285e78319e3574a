use Rattle.std.proofs.Common.{◌≡◌, List, take, fold}
use Rattle.iop_asm.specs.Assembly.{first_of, cells_faults}
use Rattle.iop_asm.specs.Cells.{Cell}
use Rattle.iop_asm.specs.DraftFields.{IsDraft}
use Rattle.iop_asm.specs.Drafts.{Draft}
use Rattle.iop_asm.specs.NumberedCells.{AreCells}
use Rattle.iop_asm.proofs.resolving.first_cell_fault.Given as goal

abbrev pub invariant-loop-index : goal.invariant-loop-index
invariant-loop-index l = (d : Draft) (list : List Cell) → IsDraft l.draft d →
    AreCells l.draft.labels l.cells list →
    l.first ≡ fold first_of l.fn.found (cells_faults d l.behind (take l.index list))
