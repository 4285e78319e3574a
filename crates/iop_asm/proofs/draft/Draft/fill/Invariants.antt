use Rattle.std.proofs.Common.{take}
use Rattle.iop_asm.specs.CellFields.{cells}
use Rattle.iop_asm.specs.DraftFields.{IsDraft}
use Rattle.iop_asm.specs.Drafts.{Draft, filled}
use Rattle.iop_asm.proofs.draft.Draft.fill.Given as goal

abbrev pub invariant-loop-cell : goal.invariant-loop-cell
invariant-loop-cell l = (d : Draft) → IsDraft l.initial.self d →
    IsDraft l.self (filled d l.section (cells (take l.cell-index l.cells)))
