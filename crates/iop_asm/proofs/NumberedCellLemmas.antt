-- Words whose labels have numbers stay the same words while labels keep their numbers.
use Rattle.std.proofs.Common.{◌≡◌, ℕ, List, [], ◌∷◌, ◌++◌, map, Option, Some, None, refl, ap, sym, ◌∙◌}
use Rattle.std.specs.Option.{option_map}
use Rattle.std.proofs.lemmas.List.{map-append}
use Rattle.std.proofs.lemmas.Option.{none-some}
use Rattle.iop_asm.specs.declared.labels.Labels.{Labels}
use Rattle.iop_asm.specs.NumberedCells.{NumberedCell}
use Rattle.iop_asm.specs.NumberedCells.{NumberedReference}
use Rattle.iop_asm.specs.Cells.{Cell, Reference}
use Rattle.iop_asm.specs.LabelFields.{name_of, KeepsNames}
use Rattle.iop_asm.specs.NumberedCells.{reference_in, references_in, cell_in, AreCells}

option_map-kept : {X Y : Type 0} (f : X → Y) (old new : Option X) (y : Y) →
    ((x : X) → old ≡ Some x → new ≡ Some x) → option_map f old ≡ Some y →
    option_map f new ≡ Some y
option_map-kept f None new y kept is = absurd (none-some y is)
option_map-kept f (Some x) new y kept is = ap (option_map f) (kept x refl) ∙ is

module _ {old new : Labels} (keeps : KeepsNames old new) where
  reference_in-kept : (r : NumberedReference) (named : Reference) →
      reference_in old r ≡ Some named → reference_in new r ≡ Some named
  reference_in-kept r named is =
      option_map-kept _ (name_of old r.label) (name_of new r.label) named (keeps.kept r.label) is

  references_in-kept : (r : Option NumberedReference) (named : Option Reference) →
      references_in old r ≡ Some named → references_in new r ≡ Some named
  references_in-kept None named is = is
  references_in-kept (Some r) named is =
      option_map-kept Some (reference_in old r) (reference_in new r) named (reference_in-kept r) is

  -- a word stays the same word
  pub cell_in-kept : (c : NumberedCell) (named : Cell) → cell_in old c ≡ Some named →
      cell_in new c ≡ Some named
  cell_in-kept c named is =
      option_map-kept _ (references_in old c.reference) (references_in new c.reference) named
      (references_in-kept c.reference) is

  -- words stay the same words
  pub AreCells-kept : (held : List NumberedCell) (cells : List Cell) →
      AreCells old held cells → AreCells new held cells
  AreCells-kept [] [] are = refl
  AreCells-kept [] (c ∷ cells) are = absurd (cc)
  AreCells-kept (x ∷ held) [] are = absurd (cc)
  AreCells-kept (x ∷ held) (c ∷ cells) are =
      let head : cell_in old x ≡ Some c = cc in
      let tail : map (cell_in old) held ≡ map Some cells = cc in
      cc (cell_in-kept x c head, AreCells-kept held cells tail)

-- one more word
pub AreCells-more : (labels : Labels) (held : List NumberedCell) (cells : List Cell)
    (x : NumberedCell) (c : Cell) → AreCells labels held cells → cell_in labels x ≡ Some c →
    AreCells labels (held ++ x ∷ []) (cells ++ c ∷ [])
AreCells-more labels held cells x c are is =
    rw (map-append (cell_in labels) held (x ∷ []), map-append Some cells (c ∷ []), are, is) refl

-- a word with a label is one with the name of its number
pub record IsNamed (labels : Labels) (n : NumberedCell) (r : NumberedReference) (c : Cell) : Type 0 where
  pub name : List ℕ
  pub is_name : name_of labels r.label ≡ Some name
  pub word : c.word ≡ n.word
  pub reference : c.reference ≡ Some (record { kind = r.kind; label = name; line = r.line })

abbrev cell_with : NumberedCell → Option (Option Reference) → Option Cell
cell_with n references = option_map (λ r. record { word = n.word; reference = r }) references

named_by : (labels : Labels) (n : NumberedCell) (r : NumberedReference) (c : Cell)
    (name : Option (List ℕ)) → name_of labels r.label ≡ name →
    cell_with n (references_in labels (Some r)) ≡ Some c → IsNamed labels n r c
named_by labels n r c None e is = absurd (cc)
named_by labels n r c (Some name) e is = record { name = name; is_name = e; word = cc; reference = cc }

pub cell_in-named : (labels : Labels) (n : NumberedCell) (r : NumberedReference) (c : Cell) →
    n.reference ≡ Some r → cell_in labels n ≡ Some c → IsNamed labels n r c
cell_in-named labels n r c some is =
    named_by labels n r c (name_of labels r.label) refl
    (sym (ap (λ o. cell_with n (references_in labels o)) some) ∙ is)
