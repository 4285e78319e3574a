-- What the index of a name says of the files on a shelf.
use Rattle.std.proofs.Common.{◌≡◌, ℕ, zero, suc, ◌<◌, ◌≤◌, Bool, true, false, nat_lt, if◌then◌else◌, Option, Some, None, List, [], ◌∷◌, ◌++◌, length, slice_set, refl, ap, arith}
use Rattle.std.specs.List.{position, position_or_len}
use Rattle.std.specs.Str.{bytes_eq}
use Rattle.std.proofs.lemmas.Bool.Decides.{nat_tests}
use Rattle.std.proofs.lemmas.List.Quantifiers.{position-Some}
use Rattle.std.proofs.lemmas.List.Sums.{fails_before_first}
use Rattle.std.proofs.lemmas.Slice.Eq.{bytes_eq-Decides}
use Rattle.iop_ports.specs.declared.shelf.Place.{Place}
use Rattle.iop_ports.specs.Shelf.{file_of, with_file}
use Rattle.iop_ports.specs.Places.{file_at, name_at, AreInside}

-- the files before an index have other names
abbrev HaveOtherNames : List (List ℕ × List ℕ) → List ℕ → ℕ → Type 0
HaveOtherNames files name count = (k : ℕ) → k < count → bytes_eq (file_at files k).0 name ≡ false

file_of-found : (files : List (List ℕ × List ℕ)) (name : List ℕ) (i : ℕ) → i < length files
    → bytes_eq (file_at files i).0 name ≡ true → HaveOtherNames files name i
    → file_of files name ≡ Some (file_at files i).1
file_of-found [] name i inside same others = absurd (omega arith)
file_of-found (file ∷ files) name zero inside same others = grind (arith)
file_of-found (file ∷ files) name (suc i) inside same others =
    let later : HaveOtherNames files name i = λ k h. others (suc k) (omega arith) in
    grind (arith, others 0, file_of-found files name i (omega arith) same later)

with_file-found : (files : List (List ℕ × List ℕ)) (name bytes : List ℕ) (i : ℕ) → i < length files
    → bytes_eq (file_at files i).0 name ≡ true → HaveOtherNames files name i
    → with_file files name bytes ≡ slice_set files i ((file_at files i).0, bytes)
with_file-found [] name bytes i inside same others = absurd (omega arith)
with_file-found (file ∷ files) name bytes zero inside same others = grind (arith)
with_file-found (file ∷ files) name bytes (suc i) inside same others =
    let later : HaveOtherNames files name i = λ k h. others (suc k) (omega arith) in
    grind (arith, others 0, with_file-found files name bytes i (omega arith) same later)

file_of-absent : (files : List (List ℕ × List ℕ)) (name : List ℕ)
    → HaveOtherNames files name (length files) → file_of files name ≡ None
file_of-absent [] name others = refl
file_of-absent (file ∷ files) name others =
    grind (arith, others 0, file_of-absent files name (λ k h. others (suc k) (omega arith)))

with_file-absent : (files : List (List ℕ × List ℕ)) (name bytes : List ℕ)
    → HaveOtherNames files name (length files)
    → with_file files name bytes ≡ files ++ (name, bytes) ∷ []
with_file-absent [] name bytes others = refl
with_file-absent (file ∷ files) name bytes others =
    grind (arith, others 0, with_file-absent files name bytes (λ k h. others (suc k) (omega arith)))

-- what is known at the index of a name
pub record IsFound (files : List (List ℕ × List ℕ)) (name : List ℕ) (index : ℕ) : Type 0 where
  pub inside : index < length files
  pub same_name : (file_at files index).0 ≡ name
  pub file : file_of files name ≡ Some (file_at files index).1
  pub with_bytes : (bytes : List ℕ)
      → with_file files name bytes ≡ slice_set files index ((file_at files index).0, bytes)

-- what is known of a name that no file has
pub record IsAbsent (files : List (List ℕ × List ℕ)) (name : List ℕ) : Type 0 where
  pub file : file_of files name ≡ None
  pub with_bytes : (bytes : List ℕ) → with_file files name bytes ≡ files ++ (name, bytes) ∷ []

pub found : (files : List (List ℕ × List ℕ)) (name : List ℕ) (i : ℕ)
    → position (λ file. bytes_eq file.0 name) files ≡ Some i → IsFound files name i
found files name i is =
    let h = position-Some (λ (file : List ℕ × List ℕ). bytes_eq file.0 name) files i ([], []) is in
    record {
      inside = h.0;
      same_name = (bytes_eq-Decides (file_at files i).0 name).0 h.1;
      file = file_of-found files name i h.0 h.1 h.2;
      with_bytes = λ bytes. with_file-found files name bytes i h.0 h.1 h.2;
    }

no_index : (n m : ℕ) → (if nat_lt n m then Some n else None) ≡ None → m ≤ n
no_index n m is = grind (arith, nat_tests)

others_of_absent : (files : List (List ℕ × List ℕ)) (name : List ℕ)
    → position (λ file. bytes_eq file.0 name) files ≡ None
    → HaveOtherNames files name (length files)
others_of_absent files name is k h =
    let has_name : List ℕ × List ℕ → Bool = λ file. bytes_eq file.0 name in
    let none = no_index (position_or_len has_name files) (length files) is in
    fails_before_first has_name files k ([], []) (omega (arith, none))

pub absent : (files : List (List ℕ × List ℕ)) (name : List ℕ)
    → position (λ file. bytes_eq file.0 name) files ≡ None → IsAbsent files name
absent files name is = record {
  file = file_of-absent files name (others_of_absent files name is);
  with_bytes = λ bytes. with_file-absent files name bytes (others_of_absent files name is);
}

-- what was at an index stays there under its name
with_file_longer : (files : List (List ℕ × List ℕ)) (name bytes : List ℕ)
    → length files ≤ length (with_file files name bytes)
with_file_longer [] name bytes = omega arith
with_file_longer (file ∷ files) name bytes = grind (arith, with_file_longer files name bytes)

name_kept : (files : List (List ℕ × List ℕ)) (name bytes : List ℕ) (i : ℕ) → i < length files
    → (file_at (with_file files name bytes) i).0 ≡ (file_at files i).0
name_kept [] name bytes i inside = absurd (omega arith)
name_kept (file ∷ files) name bytes zero inside = grind (arith)
name_kept (file ∷ files) name bytes (suc i) inside =
    grind (arith, name_kept files name bytes i (omega arith))

pub asked_kept : (files : List (List ℕ × List ℕ)) (name bytes : List ℕ) (asked : Option ℕ)
    → ((i : ℕ) → asked ≡ Some i → i < length files)
    → name_at (with_file files name bytes) asked ≡ name_at files asked
asked_kept files name bytes None inside = refl
asked_kept files name bytes (Some i) inside = ap Some (name_kept files name bytes i (inside i refl))

pub inside_after_add : (files added : List (List ℕ × List ℕ)) (name bytes : List ℕ)
    (asked : Option ℕ) (place : Option Place) → AreInside files asked place
    → added ≡ with_file files name bytes → AreInside added asked None
inside_after_add files added name bytes asked place inside is = record {
  asked_in = λ i e. grind (arith, is, with_file_longer files name bytes, inside.asked_in i e);
  place_in = λ at e. cc;
}
