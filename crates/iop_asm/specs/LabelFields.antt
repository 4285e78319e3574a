-- The labels of a source as the program holds them.
use Rattle.std.specs.Prelude.{◌≡◌, ℕ, Option, Some, option_map, List}
use Rattle.iop_asm.specs.declared.place.Place.{Place}
use Rattle.iop_asm.specs.declared.labels.Labels.{Labels}
use Rattle.iop_asm.specs.Drafts.{place_named}
use Rattle.iop_asm.specs.LabelNumbers.{label_in, number_in, place_in}

-- the label of a number
abbrev pub label_of : Labels → ℕ → Option (List ℕ × Option Place)
label_of held number = label_in held.labels number

-- the name of the label of a number
abbrev pub name_of : Labels → ℕ → Option (List ℕ)
name_of held number = option_map (λ l. l.0) (label_of held number)

-- the number of a name
abbrev pub number_of : Labels → List ℕ → Option ℕ
number_of held name = number_in held.numbers name

-- these are the labels that have a place
pub record IsTableOf (held : Labels) (labels : List (List ℕ × Place)) : Type 0 where
  pub placed : (name : List ℕ) →
      place_in held.numbers held.labels name ≡ place_named labels name

-- each label that had a number has it still
pub record KeepsNames (old new : Labels) : Type 0 where
  pub kept : (number : ℕ) (name : List ℕ) → name_of old number ≡ Some name →
      name_of new number ≡ Some name

-- each label that had a number has it still, and what was a table of the labels is one still
pub record Keeps (old new : Labels) : Type 0 where
  pub names : KeepsNames old new
  pub places : (labels : List (List ℕ × Place)) → IsTableOf old labels → IsTableOf new labels
