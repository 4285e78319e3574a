-- What follows from the definitions of texts, for the parts between commas, words and comments.
use Rattle.std.proofs.Common.{◌≡◌, ℕ, suc, ◌+◌, ◌<◌, ◌≤◌, Bool, true, false, not, cond, Some, None, List, [], ◌∷◌, ◌++◌, length, take, drop, get_or, refl, ap, sym, ◌∙◌, ⊎_elim, subst, arith}
use Rattle.std.specs.List.{before_first, after_first, filter, position, position_or_len, prefix_len, slice_split}
use Rattle.std.proofs.lemmas.Bool.{cases_Bool, cases_lt, cond_below, ne_eqb}
use Rattle.std.proofs.lemmas.List.{append-nil, append_assoc, at_drop_all, at_drop_more, drop_all, drop_more, nil_from_length, take_all, take_more, take_rest}
use Rattle.std.proofs.lemmas.List.Folds.{length-prefix_len}
use Rattle.std.proofs.lemmas.List.Quantifiers.{position-Some}
use Rattle.std.proofs.lemmas.List.Splits.{slice_split_first, slice_split_none, slice_split-cons_yes}
use Rattle.std.proofs.lemmas.List.Sums.{fails_before_first, passes_at_first, position_or_len_is}
use Rattle.std.proofs.lemmas.Option.{none-some}
use Rattle.iop_asm.specs.declared.quoting.Quoting.{Quoting}
use Rattle.iop_asm.specs.Texts.{is_blank, is_empty, after_blanks, words, begins_comment, quoting_behind, before_comment}

module _ (p : ℕ → Bool) (xs : List ℕ) where
  -- where nothing passes the list is the one part
  pub slice_split_uncut : length xs ≤ position_or_len p xs → slice_split p xs ≡ xs ∷ []
  slice_split_uncut past =
      slice_split_none p xs (λ k d inside. fails_before_first p xs k d (omega arith))

  pub slice_split_without : position p xs ≡ None → slice_split p xs ≡ xs ∷ []
  slice_split_without none =
      let n = position_or_len p xs in
      ⊎_elim (λ inside. absurd (none-some n (sym none
      ∙ sym (cond_below n (length xs) (Some n) None inside)))) slice_split_uncut
      (cases_lt n (length xs))

  -- the first that passes ends the first part
  pub slice_split_with : (i : ℕ) → position p xs ≡ Some i →
      slice_split p xs ≡ take i xs ∷ slice_split p (drop (i + 1) xs)
  slice_split_with i some =
      let at = position-Some p xs i 0 some in
      let place = position_or_len_is p xs i 0 (omega (arith, at.0)) at.2 (λ inside. at.1) in
      slice_split_first p xs 0 (omega (arith, at.0, place))
      ∙ ap (λ n. take n xs ∷ slice_split p (drop (n + 1) xs)) place

pub ruleset parts = (slice_split_without, slice_split_with, take_rest)

module _ (b : ℕ) (rest : List ℕ) where
  words-blank : is_blank b ≡ true → words (b ∷ rest) ≡ words rest
  unfolding words
  words-blank blank =
      ap (filter (λ part. not (is_empty part))) (slice_split-cons_yes is_blank b rest blank)

  after_blanks-blank : is_blank b ≡ true → after_blanks (b ∷ rest) ≡ after_blanks rest
  after_blanks-blank blank =
      let n = prefix_len is_blank rest in
      let next : 1 + n ≡ suc n = omega arith in
      ap (λ v. drop (cond v (1 + n) 0) (b ∷ rest)) blank ∙ ap (λ k. drop k (b ∷ rest)) next

  after_blanks-other : is_blank b ≡ false → after_blanks (b ∷ rest) ≡ b ∷ rest
  after_blanks-other other =
      ap (λ v. drop (cond v (1 + prefix_len is_blank rest) 0) (b ∷ rest)) other

-- blanks before it change no word
words-after_blanks : (text : List ℕ) → words (after_blanks text) ≡ words text
words-after_blanks [] = refl
words-after_blanks (b ∷ rest) =
    ⊎_elim (λ blank. ap words (after_blanks-blank b rest blank) ∙ words-after_blanks rest
    ∙ sym (words-blank b rest blank)) (λ other. ap words (after_blanks-other b rest other))
    (cases_Bool (is_blank b))

-- how many bytes stand before the first blank
abbrev word_len : List ℕ → ℕ
word_len text = position_or_len is_blank text

-- what stands behind blanks begins with a word
begins_word : (text : List ℕ) → 0 < length (after_blanks text) → 0 < word_len (after_blanks text)
begins_word [] some = absurd (omega arith)
begins_word (b ∷ rest) some =
    ⊎_elim (λ blank. let e = after_blanks-blank b rest blank in
    subst (λ t. 0 < word_len t) (sym e)
    (begins_word rest (subst (λ t. 0 < length t) e some)))
    (λ other. subst (λ t. 0 < word_len t) (sym (after_blanks-other b rest other))
    (subst (λ v. 0 < cond (not v) (1 + word_len rest) 0) (sym other) (omega arith)))
    (cases_Bool (is_blank b))

module _ (text : List ℕ) (some : 0 < word_len text) where
  abbrev word : List ℕ
  word = before_first is_blank text

  is_word : not (is_empty word) ≡ true
  is_word = ap not (ne_eqb (length word) 0
      (λ e. omega (arith, length-prefix_len (λ b. not (is_blank b)) text)))

  word_with : (parts : List (List ℕ)) → slice_split is_blank text ≡ word ∷ parts →
      words text ≡ word ∷ filter (λ part. not (is_empty part)) parts
  unfolding words
  word_with parts cut =
      let others = filter (λ part. not (is_empty part)) parts in
      ap (filter (λ part. not (is_empty part))) cut
      ∙ ap (λ v. cond v (word ∷ others) others) is_word

  word_before_blank : word_len text < length text →
      words text ≡ word ∷ words (drop (word_len text) text)
  unfolding words
  word_before_blank inside =
      let n = word_len text in
      word_with (slice_split is_blank (after_first is_blank text))
      (slice_split_first is_blank text 0 inside)
      ∙ ap (λ l. word ∷ l) (sym (ap words (drop_more text n 0 inside)
      ∙ words-blank (get_or text n 0) (drop (n + 1) text) (passes_at_first is_blank text 0 inside)))

  word_at_end : length text ≤ word_len text →
      words text ≡ word ∷ words (drop (word_len text) text)
  unfolding words
  word_at_end past =
      let n = word_len text in
      word_with [] (slice_split_uncut is_blank text past
      ∙ ap (λ l. l ∷ []) (sym (take_all n text past)))
      ∙ ap (λ l. word ∷ words l) (sym (drop_all n text past))

  -- a word that a text begins with is its first word
  words-word : words text ≡ word ∷ words (drop (word_len text) text)
  words-word = ⊎_elim word_before_blank word_at_end (cases_lt (word_len text) (length text))

-- a text has no word where nothing stands behind its blanks
pub no_word : (text : List ℕ) → length (after_blanks text) ≡ 0 → words text ≡ []
unfolding words
no_word text none =
    sym (words-after_blanks text) ∙ ap words (nil_from_length (after_blanks text) none)

-- the first word of a text, and those behind it
pub first_word : (text : List ℕ) → 0 < length (after_blanks text) →
    words text
    ≡ before_first is_blank (after_blanks text)
    ∷ words (drop (position_or_len is_blank (after_blanks text)) (after_blanks text))
first_word text some =
    sym (words-after_blanks text) ∙ words-word (after_blanks text) (begins_word text some)

pub ruleset first_words = (no_word, first_word)

module _ (quoting : Quoting) (line : List ℕ) (i : ℕ) (inside : i < length line) where
  abbrev b : ℕ
  b = get_or line i 0

  abbrev behind : List ℕ
  behind = before_comment (quoting_behind quoting b) (drop (i + 1) line)

  before_comment-drop : (begins : Bool) → begins_comment quoting b ≡ begins →
      before_comment quoting (drop i line) ≡ cond begins [] (b ∷ behind)
  unfolding before_comment
  before_comment-drop begins e =
      at_drop_more (before_comment quoting) line i 0 inside ∙ ap (λ v. cond v [] (b ∷ behind)) e

  -- a byte that begins a comment
  pub before_comment_here : begins_comment quoting b ≡ true →
      take i line ++ before_comment quoting (drop i line) ≡ take i line
  before_comment_here e =
      ap (λ l. take i line ++ l) (before_comment-drop true e) ∙ append-nil (take i line)

  -- another byte
  pub before_comment_more : begins_comment quoting b ≡ false →
      take (i + 1) line ++ behind ≡ take i line ++ before_comment quoting (drop i line)
  before_comment_more e =
      ap (λ l. l ++ behind) (take_more line i 0 inside)
      ∙ append_assoc (take i line) (b ∷ []) behind
      ∙ ap (λ l. take i line ++ l) (sym (before_comment-drop false e))

-- a line without a comment
pub before_comment_all : (quoting : Quoting) (line : List ℕ) (i : ℕ) → length line ≤ i →
    take i line ++ before_comment quoting (drop i line) ≡ line
unfolding before_comment
before_comment_all quoting line i past =
    ap (λ l. take i line ++ l) (at_drop_all (before_comment quoting) line i past)
    ∙ append-nil (take i line) ∙ take_all i line past

pub ruleset comments = (before_comment_here, before_comment_more, before_comment_all)
