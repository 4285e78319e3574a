-- How a shelf in code stands for what it holds: by the index of a file and a position in its bytes.
use Rattle.std.specs.Prelude.{◌≡◌, ℕ, ◌<◌, ◌≤◌, Option, Some, None, List, [], length, drop}
use Rattle.std.specs.List.{slice_index_or}
use Rattle.iop_ports.specs.declared.shelf.Place.{Place}

abbrev pub file_at : List (List ℕ × List ℕ) → ℕ → List ℕ × List ℕ
file_at files index = slice_index_or files index ([], [])

abbrev pub name_at : List (List ℕ × List ℕ) → Option ℕ → Option (List ℕ)
name_at files None = None
name_at files (Some index) = Some (file_at files index).0

abbrev pub left_at : List (List ℕ × List ℕ) → Option Place → List ℕ
left_at files None = []
left_at files (Some place) = drop place.position (file_at files place.file).1

pub record IsInside (files : List (List ℕ × List ℕ)) (place : Place) : Type 0 where
  pub file : place.file < length files
  pub position : place.position ≤ length (file_at files place.file).1

pub record AreInside (files : List (List ℕ × List ℕ)) (asked : Option ℕ) (place : Option Place)
    : Type 0 where
  pub asked_in : (index : ℕ) → asked ≡ Some index → index < length files
  pub place_in : (at : Place) → place ≡ Some at → IsInside files at
