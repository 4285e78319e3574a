-- The words of a line as the program holds them.
use Rattle.std.specs.Prelude.{ℕ, List, map, option_map}
use Rattle.std.specs.Borrow.{Bor}
use Rattle.iop_asm.specs.declared.cell.Cell.{Cell as Held}
use Rattle.iop_asm.specs.declared.reference.Reference.{Reference as HeldReference}
use Rattle.iop_asm.specs.Cells.{Cell, Reference}

abbrev pub reference : HeldReference (Bor (List ℕ)) → Reference
reference r = record { kind = r.kind; label = r.label.now; line = r.line }

abbrev pub cell : Held (Bor (List ℕ)) → Cell
cell c = record { word = c.word; reference = option_map reference c.reference }

abbrev pub cells : List (Held (Bor (List ℕ))) → List Cell
cells list = map cell list
