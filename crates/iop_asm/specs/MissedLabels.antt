-- The labels of bad lines as the program holds them.
use Rattle.std.specs.Prelude.{◌≡◌, ℕ, Bool, List}
use Rattle.std.specs.Borrow.{Bor}
use Rattle.std.specs.BTreeSet.{BTreeSet, contains_by}
use Rattle.std.specs.Cmp.Lexicographic.{slice_cmp}
use Rattle.std.specs.List.{list_any}
use Rattle.std.specs.Ordering.{nat_cmp}
use Rattle.std.specs.Str.{bytes_eq}

-- whether a set holds a name
abbrev pub holds : BTreeSet (Bor (List ℕ)) → List ℕ → Bool
holds names name = contains_by (λ key. slice_cmp nat_cmp name key.now) names

-- the set holds these names and no others
pub record AreNames (held : BTreeSet (Bor (List ℕ))) (names : List (List ℕ)) : Type 0 where
  pub same : (name : List ℕ) → holds held name ≡ list_any (bytes_eq name) names
