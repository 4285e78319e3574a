-- How the names of labels and their numbers go together.
use Rattle.std.specs.Prelude.{◌≡◌, ℕ, Option, Some, option_and_then, option_map, List}
use Rattle.std.specs.Borrow.{Bor}
use Rattle.std.specs.BTreeMap.{BTreeMap, get_by}
use Rattle.std.specs.Cmp.Lexicographic.{slice_cmp}
use Rattle.std.specs.Option.{ForSome}
use Rattle.std.specs.Ordering.{nat_cmp}
use Rattle.slab.specs.Slab.{Slab, get}
use Rattle.iop_asm.specs.declared.place.Place.{Place}
use Rattle.iop_asm.specs.declared.label.Label.{Label}

-- a label with its place, where it has one
abbrev pub label : Label → List ℕ × Option Place
label l = (l.name.now, l.place)

-- the number of each name
abbrev pub Numbers : Type 0
Numbers = BTreeMap (Bor (List ℕ)) ℕ

-- the number of a name
abbrev pub number_in : Numbers → List ℕ → Option ℕ
number_in numbers name = get_by (λ key. slice_cmp nat_cmp name key.now) numbers

-- the label of a number
abbrev pub label_in : Slab Label → ℕ → Option (List ℕ × Option Place)
label_in labels number = option_map label (get labels number)

-- the name of the label of a number
abbrev pub name_in : Slab Label → ℕ → Option (List ℕ)
name_in labels number = option_map (λ l. l.0) (label_in labels number)

-- the place of the label of a number, where it has one
abbrev pub place_at : Slab Label → ℕ → Option Place
place_at labels number = option_and_then (λ l. l.1) (label_in labels number)

-- the place of the label of a name, where it has one
abbrev pub place_in : Numbers → Slab Label → List ℕ → Option Place
place_in numbers labels name = option_and_then (place_at labels) (number_in numbers name)

-- the number of a name is that of the label of this name, and each label is found by its name
pub record IsNumbering (numbers : Numbers) (labels : Slab Label) : Type 0 where
  pub named : (name : List ℕ) →
      ForSome (number_in numbers name) (λ number. name_in labels number ≡ Some name)
  pub found : (number : ℕ) →
      ForSome (name_in labels number) (λ name. number_in numbers name ≡ Some number)
