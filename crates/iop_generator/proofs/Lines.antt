-- The lines of a text that follows whole lines: those, and then its own.
use Rattle.std.proofs.Common.{◌≡◌, ℕ, ◌==◌, Bool, true, false, cond, List, [], ◌∷◌, ◌++◌, append_assoc, refl, ap}
use Rattle.std.specs.List.{slice_split, onto_first}
use Rattle.std.specs.Str.Lines.{lines, lines_of_parts, strip_carriage_return}

abbrev is_newline : ℕ → Bool
is_newline b = b == 10

-- a list that is not empty
data IsFilled : List (List ℕ) → Type 0 where
  filled : (part : List ℕ) (more : List (List ℕ)) → IsFilled (part ∷ more)

onto_first-filled : (x : ℕ) (parts : List (List ℕ)) → IsFilled (onto_first x parts)
onto_first-filled x [] = filled (x ∷ []) []
onto_first-filled x (part ∷ parts) = filled (x ∷ part) parts

-- a text has at least one part
parts-filled : (text : List ℕ) → IsFilled (slice_split is_newline text)
parts-filled [] = filled [] []
parts-filled (b ∷ text) =
    elim (is_newline b)
    as (λ t. IsFilled (cond t ([] ∷ slice_split is_newline text)
    (onto_first b (slice_split is_newline text)))) [
      | true ↦ filled [] (slice_split is_newline text)
      | false ↦ onto_first-filled b (slice_split is_newline text)
    ]

onto_first-append : (x : ℕ) (parts rest : List (List ℕ)) → IsFilled parts
    → onto_first x (parts ++ rest) ≡ onto_first x parts ++ rest
onto_first-append x _ rest (filled part more) = refl

-- a text is split where a newline stands
parts-append : (text rest : List ℕ)
    → slice_split is_newline (text ++ 10 ∷ rest)
    ≡ slice_split is_newline text ++ slice_split is_newline rest
parts-append [] rest = refl
parts-append (b ∷ text) rest =
    rw (parts-append text rest)
    (elim (is_newline b)
    as (λ t. cond t ([] ∷ (slice_split is_newline text ++ slice_split is_newline rest))
    (onto_first b (slice_split is_newline text ++ slice_split is_newline rest))
    ≡ cond t ([] ∷ slice_split is_newline text) (onto_first b (slice_split is_newline text))
    ++ slice_split is_newline rest) [
      | true ↦ refl
      | false ↦ onto_first-append b _ (slice_split is_newline rest) (parts-filled text)
    ])

-- the parts before the last one are lines
lines_of_parts-append : (parts rest : List (List ℕ)) → IsFilled rest
    → lines_of_parts (parts ++ rest) ≡ lines_of_parts (parts ++ [] ∷ []) ++ lines_of_parts rest
lines_of_parts-append [] _ (filled part more) = refl
lines_of_parts-append (x ∷ []) _ (filled part more) = refl
lines_of_parts-append (x ∷ y ∷ parts) rest is_filled =
    ap (λ found. strip_carriage_return x ∷ found) (lines_of_parts-append (y ∷ parts) rest is_filled)

pub lines-append : (text rest : List ℕ)
    → lines (text ++ 10 ∷ [] ++ rest) ≡ lines (text ++ 10 ∷ []) ++ lines rest
lines-append text rest =
    rw (append_assoc, parts-append text rest, parts-append text [])
    (lines_of_parts-append (slice_split is_newline text) (slice_split is_newline rest)
    (parts-filled rest))
