-- What stands of a draft where it grows.
use Rattle.std.specs.Option.{is_some}
use Rattle.std.proofs.Common.{◌≡◌, ℕ, false, Option, Some, None, List, [], ◌∷◌, ◌++◌, refl, ap, sym, subst, Vec}
use Rattle.std.proofs.lemmas.List.{append_assoc}
use Rattle.std.specs.declared.alloc.Global.{Global}
use Rattle.iop_asm.specs.declared.draft.Draft.{Draft as Held}
use Rattle.iop_asm.specs.declared.labels.Labels.{Labels}
use Rattle.iop_asm.specs.declared.place.Place.{Place}
use Rattle.iop_asm.specs.NumberedCells.{NumberedCell}
use Rattle.iop_asm.specs.declared.section.OpenTable.{OpenTable}
use Rattle.iop_asm.specs.declared.section.Section.{Section}
use Rattle.iop_asm.specs.declared.section.Section.TheVariants.{Text, Data}
use Rattle.iop_asm.specs.Cells.{Cell}
use Rattle.iop_asm.specs.LabelFields.{IsTableOf, KeepsNames}
use Rattle.iop_asm.specs.NumberedCells.{cell_in, AreCells}
use Rattle.iop_asm.specs.DraftFields.{IsDraft}
use Rattle.iop_asm.specs.Drafts.{Draft, filled, is_label, place_named}
use Rattle.iop_asm.proofs.NumberedCellLemmas.{AreCells-kept, AreCells-more}

module _ (held : Held) (d : Draft) (h : IsDraft held d) where
  -- other labels, under the same numbers
  pub IsDraft-labels : (labels : Labels) → KeepsNames held.labels labels →
      (list : List (List ℕ × Place)) → IsTableOf labels list →
      IsDraft (record held { labels = labels }) (record d { labels = list })
  IsDraft-labels labels kept list table = record {
    line = h.line;
    name = h.name;
    version = h.version;
    entry = h.entry;
    bss = h.bss;
    section = h.section;
    table = h.table;
    text = AreCells-kept kept held.text.items d.text h.text;
    «data» = AreCells-kept kept held.«data».items d.«data» h.«data»;
    labels = table;
    fault = h.fault;
    missed = h.missed;
  }

  module _ (n : NumberedCell) (c : Cell) (is : cell_in held.labels n ≡ Some c)
      (grown : Vec NumberedCell Global) where
    more : (list : List NumberedCell) (cs : List Cell) → AreCells held.labels list cs →
        grown.items ≡ list ++ n ∷ [] → AreCells held.labels grown.items (cs ++ c ∷ [])
    more list cs e is_grown =
        subst (λ l. AreCells held.labels l (cs ++ c ∷ [])) (sym is_grown)
        (AreCells-more held.labels list cs n c e is)

    -- one more word of the text
    pub IsDraft-text : grown.items ≡ held.text.items ++ n ∷ [] →
        IsDraft (record held { text = grown }) (filled d Text (c ∷ []))
    IsDraft-text e = record {
      line = h.line;
      name = h.name;
      version = h.version;
      entry = h.entry;
      bss = h.bss;
      section = h.section;
      table = h.table;
      text = more held.text.items d.text h.text e;
      «data» = h.«data»;
      labels = h.labels;
      fault = h.fault;
      missed = h.missed;
    }

    -- one more word of the data
    pub IsDraft-data : grown.items ≡ held.«data».items ++ n ∷ [] →
        IsDraft (record held { «data» = grown }) (filled d Data (c ∷ []))
    IsDraft-data e = record {
      line = h.line;
      name = h.name;
      version = h.version;
      entry = h.entry;
      bss = h.bss;
      section = h.section;
      table = h.table;
      text = h.text;
      «data» = more held.«data».items d.«data» h.«data» e;
      labels = h.labels;
      fault = h.fault;
      missed = h.missed;
    }

-- a draft with more words, and yet more
pub filled-filled : (d : Draft) (section : Section) (xs ys : List Cell) →
    filled (filled d section xs) section ys ≡ filled d section (xs ++ ys)
filled-filled d Text xs ys = ap (λ l. record d { text = l }) (append_assoc d.text xs ys)
filled-filled d Data xs ys = ap (λ l. record d { «data» = l }) (append_assoc d.«data» xs ys)

-- a name that labels nothing has no place
is_some-false : {A : Type 0} (o : Option A) → is_some o ≡ false → o ≡ None
is_some-false None e = refl
is_some-false (Some x) e = absurd (cc)

pub not_placed : (labels : List (List ℕ × Place)) (name : List ℕ) → is_label labels name ≡ false →
    place_named labels name ≡ None
not_placed labels name e = is_some-false (place_named labels name) e

-- another table, or none
pub IsDraft-table : (held : Held) (d : Draft) → IsDraft held d → (table : Option OpenTable) →
    IsDraft (record held { table = table }) (record d { table = table })
IsDraft-table held d h table = record {
  line = h.line;
  name = h.name;
  version = h.version;
  entry = h.entry;
  bss = h.bss;
  section = h.section;
  table = refl;
  text = h.text;
  «data» = h.«data»;
  labels = h.labels;
  fault = h.fault;
  missed = h.missed;
}
