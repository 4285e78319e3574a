-- The law of numbers behind the prefix of base 16.
use Rattle.std.proofs.Common.{◌≡◌, ℕ, ◌+◌, true, List, ◌∷◌, ◌++◌, length, length-append, refl, ap, sym, ◌∙◌, arith, ⊎_elim}
use Rattle.std.specs.Prelude.{slice_index, ◌⊎◌}
use Rattle.std.specs.Char.{is_digit}
use Rattle.iop_sysclib.specs.NumeralLaws.{IsHexNumeral, HexNumeralsAreRead}
use Rattle.iop_sysclib.specs.Numerals.{is_base, has_hex_prefix, base_of, without_prefix}
use Rattle.iop_sysclib.proofs.NumeralFronts.{are_white}
use Rattle.iop_sysclib.proofs.NumeralParts.{no_sign, signs, first_digit, IsSplit, split_number}

prefix : (letter : ℕ) (number : List ℕ) → (letter ≡ 0x78) ⊎ (letter ≡ 0x58)
    → is_digit (slice_index number 0) 16 ≡ true
    → has_hex_prefix (0x30 ∷ letter ∷ number) ≡ true
prefix letter number is digit =
    ⊎_elim (λ small. rw small digit) (λ large. rw large digit) is

told_by_prefix : (unsigned : List ℕ) → has_hex_prefix unsigned ≡ true → base_of 0 unsigned ≡ 16
told_by_prefix unsigned has = rw has refl

told : (base : ℕ) (unsigned : List ℕ) → (base ≡ 0) ⊎ (base ≡ 16)
    → has_hex_prefix unsigned ≡ true → 16 ≡ base_of base unsigned
told base unsigned is has =
    ⊎_elim (λ none. sym (ap (λ b. base_of b unsigned) none ∙ told_by_prefix unsigned has))
    (λ sixteen. sym (ap (λ b. base_of b unsigned) sixteen)) is

a_base : (base : ℕ) → (base ≡ 0) ⊎ (base ≡ 16) → is_base base ≡ true
a_base base is = ⊎_elim (λ none. rw none refl) (λ sixteen. rw sixteen refl) is

module _ (base letter : ℕ) (spaces sign digits rest : List ℕ)
    (is : IsHexNumeral base letter spaces sign digits rest) where
  abbrev unsigned : List ℕ
  unsigned = 0x30 ∷ letter ∷ (digits ++ rest)

  has : has_hex_prefix unsigned ≡ true
  has =
      prefix letter (digits ++ rest) is.is_letter
      (first_digit 16 digits rest is.are_digits is.some)

  behind_prefix : digits ++ rest ≡ without_prefix 16 unsigned
  behind_prefix = let test = has in rw test refl

  split : IsSplit base 16 spaces sign unsigned digits rest
  split = record {
    is_white = are_white spaces is.is_white;
    by_sign = signs sign unsigned (λ none. no_sign unsigned (omega arith)) is.is_sign;
    told_is = told base unsigned is.is_base has;
    number_is = behind_prefix;
    are_digits = is.are_digits;
    ends = is.ends;
  }

pub hex_numerals_are_read : HexNumeralsAreRead
hex_numerals_are_read base letter spaces sign digits rest is =
    split_number base 16 spaces sign (0x30 ∷ letter ∷ (digits ++ rest)) digits rest
    (2 + length digits) (split base letter spaces sign digits rest is) (a_base base is.is_base)
    is.some (omega (arith, length-append digits rest))
