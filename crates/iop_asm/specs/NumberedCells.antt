-- The words of a section whose labels have numbers, as the program holds them.
use Rattle.std.specs.Prelude.{◌≡◌, ℕ, Option, Some, None, option_map, List, map}
use Rattle.iop_asm.specs.declared.labels.Labels.{Labels}
use Rattle.iop_asm.specs.declared.cell.Cell.{Cell as CellWith}
use Rattle.iop_asm.specs.declared.reference.Reference.{Reference as ReferenceWith}
use Rattle.iop_asm.specs.Cells.{Cell, Reference}
use Rattle.iop_asm.specs.LabelFields.{name_of}

-- a reference and a word with the number of the label
abbrev pub NumberedReference : Type 0
NumberedReference = ReferenceWith ℕ

abbrev pub NumberedCell : Type 0
NumberedCell = CellWith ℕ

-- the reference by the name of its label, where the number has one
abbrev pub reference_in : Labels → NumberedReference → Option Reference
reference_in labels r =
    option_map (λ name. record { kind = r.kind; label = name; line = r.line })
    (name_of labels r.label)

-- the same of a reference that may be none
abbrev pub references_in : Labels → Option NumberedReference → Option (Option Reference)
references_in labels None = Some None
references_in labels (Some r) = option_map Some (reference_in labels r)

-- the word with its label by name, where the number has one
abbrev pub cell_in : Labels → NumberedCell → Option Cell
cell_in labels c =
    option_map (λ reference. record { word = c.word; reference = reference })
    (references_in labels c.reference)

-- these words with numbers are those words with names
abbrev pub AreCells : Labels → List NumberedCell → List Cell → Type 0
AreCells labels held cells = map (cell_in labels) held ≡ map Some cells
