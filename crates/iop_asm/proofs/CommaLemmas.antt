-- What is read of the parts between commas, one after another.
use Rattle.std.proofs.Common.{◌≡◌, ℕ, Option, Some, None, List, [], ◌∷◌, ◌++◌, map, ap, sym, ◌∙◌}
use Rattle.std.specs.List.{slice_split}
use Rattle.iop_asm.specs.Texts.{and_rest, is_comma, words, only, parts_behind, all_of}
use Rattle.iop_asm.proofs.ReadLemmas.{read_on, read_on-nil, read_on-and_rest}

abbrev pub word_of : List ℕ → Option (List ℕ)
word_of part = only (words part)

-- the word of each part of what stands behind a comma
abbrev pub words_behind : Option (List ℕ) → Option (List (List ℕ))
words_behind left = all_of (map word_of (parts_behind left))

module _ (front : List (List ℕ)) (text part : List ℕ) (rest : Option (List ℕ))
    (cut : slice_split is_comma text ≡ part ∷ parts_behind rest) where
  words_cut : (found : Option (List ℕ)) → only (words part) ≡ found →
      words_behind (Some text) ≡ and_rest found (words_behind rest)
  words_cut found e =
      ap (λ parts. all_of (map word_of parts)) cut ∙ ap (λ w. and_rest w (words_behind rest)) e

  -- a part with one word
  pub read_on_part : (word : List ℕ) → Some word ≡ only (words part) →
      read_on (front ++ word ∷ []) (words_behind rest) ≡ read_on front (words_behind (Some text))
  read_on_part word e =
      sym (ap (read_on front) (words_cut (Some word) (sym e))
      ∙ read_on-and_rest front word (words_behind rest))

  -- a part with more words or none
  pub read_on_no_word : None ≡ only (words part) →
      read_on front (words_behind (Some text)) ≡ None
  read_on_no_word e = ap (read_on front) (words_cut None (sym e))

pub ruleset commas = (read_on-nil, read_on_part, read_on_no_word)
