use Rattle.std.proofs.Common.{◌≡◌, List, take}
use Rattle.iop_asm.specs.Assembly.{cells_bytes}
use Rattle.iop_asm.specs.Cells.{Cell}
use Rattle.iop_asm.specs.DraftFields.{IsDraft}
use Rattle.iop_asm.specs.Drafts.{Draft}
use Rattle.iop_asm.specs.NumberedCells.{AreCells}
use Rattle.iop_asm.proofs.resolving.cells_bytes.Given as goal

abbrev pub invariant-loop-index : goal.invariant-loop-index
invariant-loop-index l = (d : Draft) (list : List Cell) → IsDraft l.draft d →
    AreCells l.draft.labels l.cells list →
    l.bytes.items ≡ cells_bytes d l.behind (take l.index list)
