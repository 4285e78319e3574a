-- The bytes of words, one word after the other, and each of them read where they were put into
-- memory.
use Rattle.std.proofs.Common.{◌≡◌, ℕ, zero, suc, ◌+◌, ◌-◌, ◌*◌, ◌/◌, ◌%◌, ◌<◌, ◌≤◌, List, [], ◌∷◌, ◌++◌, length, take, drop, get_or, replicate, append_assoc, refl, ap, sym, ◌∙◌, arith}
use Rattle.std.proofs.Math.Seq.{take-append_seam, drop-append-add}
use Rattle.std.proofs.lemmas.List.{length-append, length-take-le, take_more, drop-replicate}
use Rattle.iop_base.specs.Numbers.{wrapped, number_at, bytes_of, with_bytes}
use Rattle.iop_base.proofs.Lists.{length-bytes_of, number_at-word}
use Rattle.iop_base.proofs.Memory.{number_at_inside}
use Rattle.iop_kernel.specs.Boards.{bytes_of_words}

-- the bytes of words behind others
bytes_of_words-append : (words more : List ℕ)
    → bytes_of_words (words ++ more) ≡ bytes_of_words words ++ bytes_of_words more
bytes_of_words-append [] more = refl
bytes_of_words-append (word ∷ words) more =
    ap (λ bytes. bytes_of 4 word ++ bytes) (bytes_of_words-append words more)
    ∙ sym (append_assoc (bytes_of 4 word) (bytes_of_words words) (bytes_of_words more))

-- each word has four bytes
pub length-bytes_of_words : (words : List ℕ) → length (bytes_of_words words) ≡ 4 * length words
length-bytes_of_words [] = refl
length-bytes_of_words (word ∷ words) =
    let all = length-append (bytes_of 4 word) (bytes_of_words words) in
    omega (arith, all, length-bytes_of 4 word, length-bytes_of_words words)

-- bytes put behind a front, in place of the zeroes that stood there
with_bytes-front : (front bytes : List ℕ) (n at : ℕ) → at ≡ length front
    → with_bytes (front ++ replicate n 0) at bytes
    ≡ front ++ bytes ++ replicate (n - length bytes) 0
with_bytes-front front bytes n at is =
    let zeroes = replicate n 0 in
    let kept = drop-append-add front zeroes (length bytes) ∙ drop-replicate (length bytes) n 0 in
    rw is (ap (λ t. t ++ bytes ++ drop (length front + length bytes) (front ++ zeroes))
    (take-append_seam front zeroes)
    ∙ ap (λ t. front ++ bytes ++ t) kept)

-- one word more is put behind those before it
pub word_put : (words bytes : List ℕ) (n i : ℕ) → i < length words
    → bytes ≡ bytes_of_words (take i words) ++ replicate (n - 4 * i) 0
    → with_bytes bytes (4 * i) (bytes_of 4 (get_or words i 0))
    ≡ bytes_of_words (take (i + 1) words) ++ replicate (n - 4 * (i + 1)) 0
word_put words bytes n i below is =
    let word = bytes_of 4 (get_or words i 0) in
    let front = take i words in
    let long = length-bytes_of_words front in
    let at : 4 * i ≡ length (bytes_of_words front) =
    omega (arith, long, length-take-le i words (omega arith)) in
    let left : n - 4 * i - 4 ≡ n - 4 * (i + 1) = omega arith in
    let more = ap bytes_of_words (take_more words i 0 below)
    ∙ bytes_of_words-append front (get_or words i 0 ∷ []) in
    ap (λ t. with_bytes t (4 * i) word) is
    ∙ with_bytes-front (bytes_of_words front) word (n - 4 * i) (4 * i) at
    ∙ ap (λ t. t ++ replicate (n - 4 * i - 4) 0) (sym more)
    ∙ ap (λ m. bytes_of_words (take (i + 1) words) ++ replicate m 0) left

-- the bytes of one of many words
word_bytes : (words : List ℕ) (k : ℕ) → k < length words
    → take 4 (drop (4 * k) (bytes_of_words words)) ≡ bytes_of 4 (get_or words k 0)
word_bytes [] k below = absurd (omega (arith, below))
word_bytes (word ∷ words) zero below = take-append_seam (bytes_of 4 word) (bytes_of_words words)
word_bytes (word ∷ words) (suc k) below =
    let rest = bytes_of_words words in
    let next : 4 * suc k ≡ 4 + 4 * k = omega arith in
    ap (λ p. take 4 (drop p (bytes_of 4 word ++ rest))) next
    ∙ ap (take 4) (drop-append-add (bytes_of 4 word) rest (4 * k))
    ∙ word_bytes words k (omega (arith, below))

-- words that were put into memory
abbrev pub written : (memory : List ℕ) (place : ℕ) (words : List ℕ) → List ℕ
written memory place words = with_bytes memory place (bytes_of_words words)

-- four bytes, each the same
four_bytes : (a b c d e f g h : ℕ) → a ≡ e → b ≡ f → c ≡ g → d ≡ h
    → a ∷ b ∷ c ∷ d ∷ [] ≡ e ∷ f ∷ g ∷ h ∷ []
four_bytes a b c d e f g h first second third last = cc

-- the bytes of a number are those of the word that it leaves
bytes_of-wrapped : (value : ℕ) → bytes_of 4 value ≡ bytes_of 4 (wrapped value)
bytes_of-wrapped value =
    let first : value % 256 ≡ wrapped value % 256 = omega arith in
    let second : value / 256 % 256 ≡ wrapped value / 256 % 256 = omega arith in
    let third : value / 256 / 256 % 256 ≡ wrapped value / 256 / 256 % 256 = omega arith in
    let last : value / 256 / 256 / 256 % 256 ≡ wrapped value / 256 / 256 / 256 % 256 =
    omega arith in
    four_bytes _ _ _ _ _ _ _ _ first second third last

module _ (memory : List ℕ) (place : ℕ) (words : List ℕ)
    (fits : place + 4 * length words ≤ length memory) where
  -- the word that each leaves is read at its place
  pub word_at : (k : ℕ) → k < length words
      → number_at (written memory place words) (place + 4 * k) 4 ≡ wrapped (get_or words k 0)
  word_at k below =
      let bytes = bytes_of_words words in
      let long = length-bytes_of_words words in
      let word = get_or words k 0 in
      number_at_inside memory place bytes (omega (arith, fits, long)) (4 * k) 4
      (omega (arith, below, long))
      ∙ number_at-word bytes (4 * k) (wrapped word) (omega arith)
      (word_bytes words k below ∙ bytes_of-wrapped word)

  -- the first one, at the place itself
  pub first_at : 0 < length words
      → number_at (written memory place words) place 4 ≡ wrapped (get_or words 0 0)
  first_at some =
      let first : place ≡ place + 4 * 0 = omega arith in
      ap (λ p. number_at (written memory place words) p 4) first ∙ word_at 0 some
