-- What is read of the words of operands, one after another.
use Rattle.std.proofs.Common.{◌≡◌, ℕ, ◌+◌, ◌<◌, ◌≤◌, Bool, true, false, cond, Option, Some, None, List, [], ◌∷◌, ◌++◌, length, drop, get_or, map, Bor, refl, ap, sym, ◌∙◌, arith}
use Rattle.std.specs.Bool.{◌==◌}
use Rattle.std.proofs.lemmas.Bool.Decides.{nat_tests}
use Rattle.std.proofs.lemmas.List.{append-nil, at_drop_all, at_drop_more, take_rest}
use Rattle.iop_isa.specs.declared.table.Operand.{Operand}
use Rattle.iop_asm.specs.Operands.{Value, operand_of, is_place, last_place, operands_of}
use Rattle.iop_asm.specs.Texts.{and_rest}
use Rattle.iop_asm.proofs.ReadLemmas.{read_on, read_on-nil, read_on-and_rest, option_map-then_some}

module _ (word : List ℕ) (rest : List (List ℕ)) where
  -- a place for both operands that are left
  operands_of-place : (left : List Operand) →
      is_place left ≡ true → operands_of left (word ∷ rest) ≡ last_place word rest
  unfolding operands_of
  operands_of-place [] e = cc
  operands_of-place (operand ∷ left) e =
      ap (λ v. cond v (last_place word rest)
      (and_rest (operand_of operand word) (operands_of left rest))) e

  -- a word for one operand
  operands_of-word : (operand : Operand) (left : List Operand) →
      is_place (operand ∷ left) ≡ false →
      operands_of (operand ∷ left) (word ∷ rest)
      ≡ and_rest (operand_of operand word) (operands_of left rest)
  unfolding operands_of
  operands_of-word operand left e =
      ap (λ v. cond v (last_place word rest)
      (and_rest (operand_of operand word) (operands_of left rest))) e

  -- a word too many
  operands_of-more : (left : List Operand) → length left ≡ 0 → operands_of left (word ∷ rest) ≡ None
  unfolding operands_of
  operands_of-more [] e = refl
  operands_of-more (operand ∷ left) e = absurd (omega arith)

operands_of-end : (left : List Operand) → operands_of left [] ≡ cond (length left == 0) (Some []) None
unfolding operands_of
operands_of-end [] = refl
operands_of-end (operand ∷ left) =
    let some : length (operand ∷ left) == 0 ≡ false = grind (arith, nat_tests) in
    sym (ap (λ v. cond v (Some []) None) some)

module _ (words : List (Bor (List ℕ))) where
  abbrev pub texts : List (List ℕ)
  texts = map (λ word. word.now) words

  abbrev pub word_at : ℕ → List ℕ
  word_at i = (get_or words i (record { ref_ptr = (0, 0); now = [] })).now

-- the operands of the words from some place on
abbrev pub operands_from : List Operand → List (Bor (List ℕ)) → ℕ → Option (List (Operand × Value))
operands_from left words i = operands_of left (texts (drop i words))

module _ (front : List (Operand × Value)) (words : List (Bor (List ℕ))) (i : ℕ)
    (inside : i < length words) where
  operands_from-more : (left : List Operand) →
      operands_from left words i ≡ operands_of left (word_at words i ∷ texts (drop (i + 1) words))
  operands_from-more left =
      at_drop_more (λ rest. operands_of left (texts rest)) words i
      (record { ref_ptr = (0, 0); now = [] }) inside

  -- a place for both operands that are left
  pub read_on_place : (left : List Operand) → is_place left ≡ true →
      read_on front (operands_from left words i)
      ≡ read_on front (last_place (word_at words i) (texts (drop (i + 1) words)))
  read_on_place left e =
      ap (read_on front) (operands_from-more left
      ∙ operands_of-place (word_at words i) (texts (drop (i + 1) words)) left e)

  -- a word too many
  pub read_on_more : (left : List Operand) → length left ≡ 0 →
      read_on front (operands_from left words i) ≡ None
  read_on_more left e =
      ap (read_on front) (operands_from-more left
      ∙ operands_of-more (word_at words i) (texts (drop (i + 1) words)) left e)

  module _ (operand : Operand) (left : List Operand) (e : is_place (operand ∷ left) ≡ false) where
    operands_from-word : (value : Option (Operand × Value)) →
        value ≡ operand_of operand (word_at words i) →
        operands_from (operand ∷ left) words i
        ≡ and_rest value (operands_from left words (i + 1))
    operands_from-word value is =
        operands_from-more (operand ∷ left)
        ∙ operands_of-word (word_at words i) (texts (drop (i + 1) words)) operand left e
        ∙ ap (λ v. and_rest v (operands_from left words (i + 1))) (sym is)

    -- a word for one operand
    pub read_on_word : (value : Operand × Value) →
        Some value ≡ operand_of operand (word_at words i) →
        read_on (front ++ value ∷ []) (operands_from left words (i + 1))
        ≡ read_on front (operands_from (operand ∷ left) words i)
    read_on_word value is =
        sym (ap (read_on front) (operands_from-word (Some value) is)
        ∙ read_on-and_rest front value (operands_from left words (i + 1)))

    -- a word that is not its operand
    pub read_on_other : None ≡ operand_of operand (word_at words i) →
        read_on front (operands_from (operand ∷ left) words i) ≡ None
    read_on_other is = ap (read_on front) (operands_from-word None is)

module _ (front : List (Operand × Value)) where
  read_on-empty : (empty : Bool) →
      read_on front (cond empty (Some []) None) ≡ cond empty (Some front) None
  read_on-empty true = ap Some (append-nil front)
  read_on-empty false = refl

  -- the end of the words
  pub read_on_end : (left : List Operand) (words : List (Bor (List ℕ))) (i : ℕ) →
      length words ≤ i →
      read_on front (operands_from left words i) ≡ cond (length left == 0) (Some front) None
  read_on_end left words i past =
      ap (read_on front) (at_drop_all (λ rest. operands_of left (texts rest)) words i past
      ∙ operands_of-end left)
      ∙ read_on-empty (length left == 0)

pub ruleset operands = (
  read_on-nil,
  read_on_place,
  read_on_more,
  read_on_word,
  read_on_other,
  read_on_end,
  take_rest,
  option_map-then_some,
)
