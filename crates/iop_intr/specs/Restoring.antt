-- How the lines are put back, one after the other.
use Rattle.std.specs.Prelude.{ℕ, ◌+◌, List, [], ◌∷◌, set}
use Rattle.iop_intr.specs.declared.irq_line.IrqLine.{IrqLine}

-- the lines with these at the numbers from this one on
abbrev pub with_lines : List IrqLine → ℕ → List IrqLine → List IrqLine
with_lines lines n [] = lines
with_lines lines n (line ∷ later) = with_lines (set lines n line) (n + 1) later
