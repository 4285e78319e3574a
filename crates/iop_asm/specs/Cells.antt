-- The words of a unit before its labels have addresses.
use Rattle.std.specs.Prelude.{ℕ, None, List}
use Rattle.iop_asm.specs.declared.cell.Cell.{Cell as CellWith}
use Rattle.iop_asm.specs.declared.reference.Reference.{Reference as ReferenceWith}

-- a label by its name, what becomes of its address, and the line that names it
abbrev pub Reference : Type 0
Reference = ReferenceWith (List ℕ)

-- a word, with 0 where a label decides it, and that label by its name
abbrev pub Cell : Type 0
Cell = CellWith (List ℕ)

abbrev pub plain_cell : ℕ → Cell
plain_cell word = record { word = word; reference = None }
