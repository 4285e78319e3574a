-- The words that statements fill a section with, one after another.
use Rattle.std.proofs.Common.{◌≡◌, ℕ, ◌+◌, ◌*◌, ◌/◌, if◌then◌else◌, Option, Some, None, List, [], ◌∷◌, ◌++◌, length, map, refl, ap, arith}
use Rattle.std.specs.List.{list_all, range_with_len}
use Rattle.std.proofs.lemmas.List.{map-append}
use Rattle.std.proofs.lemmas.List.FromFn.{map-range_with_len_more}
use Rattle.iop_base.specs.Numbers.{word_at}
use Rattle.iop_asm.specs.declared.value.Value.{Value as HeldValue}
use Rattle.iop_asm.specs.Cells.{Cell, plain_cell}
use Rattle.iop_asm.specs.Operands.{Value}
use Rattle.iop_asm.specs.Statements.{byte_cells, is_word, word_cell}
use Rattle.iop_asm.specs.Texts.{all_of}
use Rattle.iop_asm.specs.Values.{view}

-- so many words of bytes
unfoldable pub first_cells : List ℕ → ℕ → List Cell
first_cells bytes n = map (λ k. plain_cell (word_at bytes (4 * k))) (range_with_len 0 n)

module _ (bytes : List ℕ) where
  pub first_cells-none : first_cells bytes 0 ≡ []
  unfolding first_cells
  first_cells-none = refl

  pub first_cells-more : (n : ℕ) →
      first_cells bytes (n + 1) ≡ first_cells bytes n ++ plain_cell (word_at bytes (4 * n)) ∷ []
  unfolding first_cells
  first_cells-more n =
      map-range_with_len_more (λ k. plain_cell (word_at bytes (4 * k))) 0 n n (omega arith)

  pub first_cells-all : (n : ℕ) → n ≡ length bytes / 4 → first_cells bytes n ≡ byte_cells bytes
  unfolding first_cells
  first_cells-all n all = ap (first_cells bytes) all

pub ruleset words_of_bytes = (first_cells-none, first_cells-more, first_cells-all, map-append)

-- the word of a value that fits
abbrev pub fitting_cell : ℕ → Value → Option Cell
fitting_cell line value = if is_word value then Some (word_cell line value) else None

-- the words of values are there where each fits
pub fitting_cells : (line : ℕ) (values : List HeldValue) →
    all_of (map (λ value. fitting_cell line (view value)) values)
    ≡ if list_all is_word (map view values)
    then Some (map (word_cell line) (map view values)) else None
fitting_cells line [] = refl
fitting_cells line (value ∷ values) =
    let rest = fitting_cells line values in grind (arith, rest)
