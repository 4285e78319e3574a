-- What the lines of source make, as the program holds it.
use Rattle.std.specs.Prelude.{◌≡◌, ℕ, List, option_map}
use Rattle.std.specs.Option.{option_copied}
use Rattle.iop_asm.specs.declared.draft.Entry.{Entry}
use Rattle.iop_asm.specs.declared.draft.Draft.{Draft as Held}
use Rattle.iop_asm.specs.Drafts.{Draft}
use Rattle.iop_asm.specs.Assembly.{first_fault}
use Rattle.iop_asm.specs.LabelFields.{IsTableOf}
use Rattle.iop_asm.specs.MissedLabels.{AreNames}
use Rattle.iop_asm.specs.NumberedCells.{AreCells}

abbrev pub entry : Entry → List ℕ × ℕ
entry e = (e.label.now, e.line)

pub record IsDraft (held : Held) (d : Draft) : Type 0 where
  pub line : held.line ≡ d.line
  pub name : option_copied held.name ≡ d.name
  pub version : held.version ≡ d.version
  pub entry : option_map entry held.entry ≡ d.entry
  pub bss : held.bss ≡ d.bss
  pub section : held.section ≡ d.section
  pub table : held.table ≡ d.table
  pub text : AreCells held.labels held.text.items d.text
  pub «data» : AreCells held.labels held.«data».items d.«data»
  pub labels : IsTableOf held.labels d.labels
  pub fault : held.fault ≡ first_fault d.faults
  pub missed : AreNames held.missed d.missed
