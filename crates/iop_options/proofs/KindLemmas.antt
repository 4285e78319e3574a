-- What a word is by itself, by its bytes.
use Rattle.std.proofs.Common.{◌≡◌, ℕ, ◌+◌, ◌≤◌, ◌==◌, Bool, true, false, not, cond, Some, None, List, [], ◌∷◌, ◌++◌, length, take, drop, codes, refl, ◌∙◌, ap, arith}
use Rattle.std.specs.List.{list_any, position_or_len, before_first}
use Rattle.std.specs.Str.{bytes_eq}
use Rattle.std.proofs.lemmas.Bool.{or_parts}
use Rattle.std.proofs.lemmas.List.{length-append}
use Rattle.std.proofs.lemmas.List.Folds.{list_any-append}
use Rattle.std.proofs.Math.Seq.{take-append_seam, take-length, drop-append-add}
use Rattle.iop_options.specs.Words.{Kind, separator, option, unknown, plain, is_hyphen, is_equals, attached, behind_hyphen, kind_of}
use Rattle.iop_options.proofs.WordLemmas.{word_cases}
use Rattle.iop_options.specs.Laws.{option_word, joined_word, IsName, is_plain}

pub plain_kind : (word : List ℕ) → is_plain word ≡ true → kind_of word ≡ plain
plain_kind [] is = refl
plain_kind (only ∷ []) is = go (is_hyphen only)
  where
    go : (b : Bool) → cond b plain plain ≡ plain
    go true = refl
    go false = refl
plain_kind (first ∷ second ∷ rest) is = go (is_hyphen first) is
  where
    go : (b : Bool) → not b ≡ true → cond b (behind_hyphen (second ∷ rest)) plain ≡ plain
    go true is = absurd (cc)
    go false is = refl

-- ---- options

-- a name ends with the word, or at the `=` behind it
bare_ends : (name : List ℕ) → list_any is_equals name ≡ false →
    position_or_len is_equals name ≡ length name
bare_ends [] none = refl
bare_ends (b ∷ name) none =
    let apart = or_parts (is_equals b) _ none in
    rw (apart.0, bare_ends name apart.1) (omega arith)

name_ends : (name text : List ℕ) → list_any is_equals name ≡ false →
    position_or_len is_equals (name ++ 61 ∷ text) ≡ length name
name_ends [] text none = refl
name_ends (b ∷ name) text none =
    let apart = or_parts (is_equals b) _ none in
    rw (apart.0, name_ends name text apart.1) (omega arith)

name_of_bare : (name : List ℕ) → list_any is_equals name ≡ false → before_first is_equals name ≡ name
name_of_bare name none = ap (λ n. take n name) (bare_ends name none) ∙ take-length name

module _ (name text : List ℕ) (none : list_any is_equals name ≡ false) where
  abbrev both : List ℕ
  both = name ++ 61 ∷ text

  name_of_both : before_first is_equals both ≡ name
  name_of_both =
      ap (λ n. take n both) (name_ends name text none) ∙ take-append_seam name (61 ∷ text)

  text_of_both : attached both ≡ Some text
  text_of_both =
      rw (list_any-append is_equals name (61 ∷ text), none)
      (ap (λ n. Some (drop (n + 1) both)) (name_ends name text none)
      ∙ ap Some (drop-append-add name (61 ∷ text) 1))

-- a word that goes on behind `--`
named_kind : (rest : List ℕ) → 1 ≤ length rest →
    kind_of (45 ∷ 45 ∷ rest) ≡ option (before_first is_equals rest) (attached rest)
named_kind [] some = absurd (omega arith)
named_kind (b ∷ rest) some = refl

pub option_kind : (name : List ℕ) → IsName name → kind_of (option_word name) ≡ option name None
option_kind name is =
    named_kind name is.some
    ∙ (λ i. option (name_of_bare name is.cut i) (bare i))
  where
    bare : attached name ≡ None
    bare = rw is.cut refl

pub joined_kind : (name text : List ℕ) → IsName name →
    kind_of (joined_word name text) ≡ option name (Some text)
joined_kind name text is =
    let long = length-append name (61 ∷ text) in
    let some = is.some in
    named_kind (name ++ 61 ∷ text) (omega (arith, long, some))
    ∙ (λ i. option (name_of_both name text is.cut i) (text_of_both name text is.cut i))

-- ---- `--`

abbrev pub is_separator : Kind → Bool
is_separator separator = true
is_separator (option name text) = false
is_separator unknown = false
is_separator plain = false

-- it alone is the separator
pub other_kind : (word : List ℕ) → not (bytes_eq word (codes "--")) ≡ true →
    not (is_separator (kind_of word)) ≡ true
other_kind word other = word_cases Q two long short hyphen none first word other
  where
    Q : List ℕ → Type 0
    Q word = not (bytes_eq word (codes "--")) ≡ true → not (is_separator (kind_of word)) ≡ true

    two : Q (45 ∷ 45 ∷ [])
    two other = absurd (cc)

    long : (b : ℕ) (rest : List ℕ) → Q (45 ∷ 45 ∷ b ∷ rest)
    long b rest other = refl

    short : (b : ℕ) (rest : List ℕ) → (b == 45) ≡ false → Q (45 ∷ b ∷ rest)
    short b rest apart other = rw apart refl

    hyphen : Q (45 ∷ [])
    hyphen other = refl

    none : Q []
    none other = refl

    first : (b : ℕ) (rest : List ℕ) → (b == 45) ≡ false → Q (b ∷ rest)
    first b rest apart other = rw apart refl
