-- The laws of the numbers that texts begin with.
use Rattle.std.proofs.Common.{◌≡◌, ◌≢◌, ℕ, ◌+◌, ◌<◌, false, true, ne_eqb, eqb-true, eq-eqb, List, [], ◌∷◌, ◌++◌, length, length-append, refl, ap, sym, ◌∙◌, arith}
use Rattle.std.specs.Prelude.{◌==◌, slice_index}
use Rattle.std.specs.Str.Parse.{digits_value, starts_with_minus}
use Rattle.std.proofs.lemmas.Bool.{le-leb}
use Rattle.iop_sysclib.specs.NumeralLaws.{IsNumeral, ReadsNumeral, NumeralsAreRead, DecimalsAreTold, OctalsAreTold}
use Rattle.iop_sysclib.specs.Numerals.{is_base, has_hex_prefix, base_of, held_word, reading_of}
use Rattle.iop_sysclib.specs.declared.reading.Reading.{Reading}
use Rattle.iop_sysclib.proofs.NumeralFronts.{are_white, unprefixed}
use Rattle.iop_sysclib.proofs.NumeralParts.{no_sign, signs, first_high, by_prefix, IsSplit, split_number}

module _ (base : ℕ) (spaces sign digits rest : List ℕ)
    (is : IsNumeral base spaces sign digits rest) where
  abbrev number : List ℕ
  number = digits ++ rest

  is_a_base : is_base base ≡ true
  is_a_base =
      let some : (base == 0) ≡ false = ne_eqb base 0 (omega (arith, is.least)) in
      let low = le-leb 2 base is.least in
      let high = le-leb base 36 is.greatest in
      rw (some, low, high) refl

  -- the parts, where this base is asked for, or told
  parts : (asked : ℕ) → base ≡ base_of asked number
      → IsSplit asked base spaces sign number digits rest
  parts asked told_is =
      let high = first_high base digits rest is.greatest is.are_digits is.some in
      record {
        is_white = are_white spaces is.is_white;
        by_sign = signs sign number (λ none. no_sign number high) is.is_sign;
        told_is = told_is;
        number_is = sym (by_prefix (base == 16) (has_hex_prefix number) number
            (λ same. unprefixed number (is.plain (eqb-true base 16 same))));
        are_digits = is.are_digits;
        ends = is.ends;
      }

  -- the number, where this base is asked for, or told
  number_by : (asked : ℕ) → is_base asked ≡ true → base ≡ base_of asked number
      → reading_of asked (spaces ++ (sign ++ number)) ≡ record {
        word = held_word (starts_with_minus sign) (digits_value base digits);
        len = length spaces + (length sign + length digits);
      }
  number_by asked a_base told_is =
      split_number asked base spaces sign number digits rest (length digits)
      (parts asked told_is) a_base is.some (length-append digits rest)

  asked_base : base ≡ base_of base number
  asked_base =
      let some : (base == 0) ≡ false = ne_eqb base 0 (omega (arith, is.least)) in rw some refl

  read : ReadsNumeral base spaces sign digits rest
  read =
      let is = number_by base is_a_base asked_base in
      record {
        word_is = ap (λ (r : Reading). r.word) is;
        len_is = ap (λ (r : Reading). r.len) is;
      }

  -- base 0 reads what the base that it tells reads
  pub told_alike : base_of 0 number ≡ base
      → reading_of 0 (spaces ++ (sign ++ number)) ≡ reading_of base (spaces ++ (sign ++ number))
  told_alike told_is =
      number_by 0 refl (sym told_is) ∙ sym (number_by base is_a_base asked_base)

  -- the first byte is that of the digits
  pub first_is : slice_index number 0 ≡ slice_index digits 0
  first_is = first_by digits is.some
    where
      first_by : (ds : List ℕ) → 0 < length ds → slice_index (ds ++ rest) 0 ≡ slice_index ds 0
      first_by [] some = absurd (omega (arith, some))
      first_by (d ∷ ds) some = refl

pub numerals_are_read : NumeralsAreRead
numerals_are_read base spaces sign digits rest is = read base spaces sign digits rest is

-- the base that is told by what stands in front
tells_octal : (number : List ℕ) → slice_index number 0 ≡ 0x30 → has_hex_prefix number ≡ false
    → base_of 0 number ≡ 8
tells_octal number zero none =
    let test : (slice_index number 0 == 0x30) ≡ true = eq-eqb (slice_index number 0) 0x30 zero in
    rw none (rw test refl)

pub tells_decimal : (number : List ℕ) → slice_index number 0 ≢ 0x30 → base_of 0 number ≡ 10
tells_decimal number apart =
    let test : (slice_index number 0 == 0x30) ≡ false = ne_eqb (slice_index number 0) 0x30 apart in
    rw test refl

pub octals_are_told : OctalsAreTold
octals_are_told spaces sign digits rest is zero none =
    told_alike 8 spaces sign digits rest is
    (tells_octal (digits ++ rest) (first_is 8 spaces sign digits rest is ∙ zero)
    (unprefixed (digits ++ rest) none))

pub decimals_are_told : DecimalsAreTold
decimals_are_told spaces sign digits rest is apart =
    told_alike 10 spaces sign digits rest is
    (tells_decimal (digits ++ rest)
    (λ same. apart (sym (first_is 10 spaces sign digits rest is) ∙ same)))
