-- What a word is, for the command and for `clap`.
use Rattle.std.proofs.Common.{◌≡◌, ℕ, Bool, true, false, ◌==◌, Some, None, List, [], ◌∷◌, ◌++◌, refl, sym, ap, subst, eqb-true, lit<}
use Rattle.std.specs.Prelude.{slice_get}
use Rattle.std.specs.Str.{bytes_eq, chars, IsUtf8}
use Rattle.std.specs.Str.{encode_utf8_all}
use Rattle.std.proofs.lemmas.Str.{encodes-chars, encode_ascii}
use Rattle.clap.specs.Lexer.{long_of, short_of}
use Rattle.iop_options.specs.Words.{unknown, plain, kind_of}

-- each word is `--`, or longer and begins so, or begins with `-` and another byte, or is neither
pub word_cases : (P : List ℕ → Type 0)
    → P (45 ∷ 45 ∷ [])
    → ((b : ℕ) (rest : List ℕ) → P (45 ∷ 45 ∷ b ∷ rest))
    → ((b : ℕ) (rest : List ℕ) → (b == 45) ≡ false → P (45 ∷ b ∷ rest))
    → P (45 ∷ [])
    → P []
    → ((b : ℕ) (rest : List ℕ) → (b == 45) ≡ false → P (b ∷ rest))
    → (word : List ℕ) → P word
word_cases P two long short hyphen none other [] = none
word_cases P two long short hyphen none other (b ∷ rest) = go (b == 45) refl
  where
    third : (rest : List ℕ) → P (45 ∷ 45 ∷ rest)
    third [] = two
    third (d ∷ more) = long d more

    second : (rest : List ℕ) → P (45 ∷ rest)
    second [] = hyphen
    second (d ∷ more) = second_by (d == 45) refl
      where
        second_by : (t : Bool) → (d == 45) ≡ t → P (45 ∷ d ∷ more)
        second_by true e = subst (λ n. P (45 ∷ n ∷ more)) (sym (eqb-true d 45 e)) (third more)
        second_by false e = short d more e

    go : (t : Bool) → (b == 45) ≡ t → P (b ∷ rest)
    go true e = subst (λ n. P (n ∷ rest)) (sym (eqb-true b 45 e)) (second rest)
    go false e = other b rest e

-- a plain word, for both
pub record IsPlain (word : List ℕ) : Type 0 where
  pub kind : kind_of word ≡ plain
  pub two : bytes_eq word (45 ∷ 45 ∷ []) ≡ false
  pub long : long_of word ≡ None
  pub short : short_of word ≡ None

pub plain-none : IsPlain []
plain-none = record { kind = refl; two = refl; long = refl; short = refl }

pub plain-hyphen : IsPlain (45 ∷ [])
plain-hyphen = record { kind = refl; two = refl; long = refl; short = refl }

pub plain-other : (b : ℕ) (rest : List ℕ) → (b == 45) ≡ false → IsPlain (b ∷ rest)
plain-other b rest e = record {
  kind = rw e refl;
  two = rw e refl;
  long = rw e refl;
  short = rw e refl;
}

-- a word that begins with one hyphen alone
pub record IsDashed (word : List ℕ) : Type 0 where
  pub kind : kind_of word ≡ unknown
  pub two : bytes_eq word (45 ∷ 45 ∷ []) ≡ false
  pub long : long_of word ≡ None

pub dashed-short : (b : ℕ) (rest : List ℕ) → (b == 45) ≡ false → IsDashed (45 ∷ b ∷ rest)
dashed-short b rest e = record { kind = rw e refl; two = rw e refl; long = rw e refl }

pub short_of-dashed : (b : ℕ) (rest : List ℕ) → (b == 45) ≡ false
    → short_of (45 ∷ b ∷ rest) ≡ Some (b ∷ rest)
short_of-dashed b rest e = rw e refl

-- in a text, what follows a hyphen begins with a character
pub first_char : (b : ℕ) (rest : List ℕ) → IsUtf8 (45 ∷ b ∷ rest)
    → (c : ℕ) × (slice_get (chars (b ∷ rest)) 0 ≡ Some c)
unfolding chars
first_char b rest text = go (chars (b ∷ rest)) refl
  where
    go : (cs : List ℕ) → chars (b ∷ rest) ≡ cs
        → (c : ℕ) × (slice_get (chars (b ∷ rest)) 0 ≡ Some c)
    go (c ∷ cs) e = (c, ap (λ l. slice_get l 0) e)
    go [] e =
        let spelt : encode_utf8_all (45 ∷ []) ≡ 45 ∷ b ∷ rest =
        subst (λ ds. encode_utf8_all (45 ∷ ds) ≡ 45 ∷ b ∷ rest) e
        (encodes-chars (45 ∷ b ∷ rest) text) in
        let hyphen : encode_utf8_all (45 ∷ []) ≡ 45 ∷ [] =
        ap (λ l. l ++ []) (encode_ascii 45 (lit< tt)) in
        cc
