-- The laws of texts of which nothing is read.
use Rattle.std.proofs.Common.{◌≡◌, ℕ, ◌<◌, Bool, true, false, ne_eqb, eqb-true, List, [], ◌∷◌, ◌++◌, refl, ap, sym, ◌∙◌, arith, ⊎_elim}
use Rattle.std.specs.Prelude.{◌==◌, ◌≢◌, if◌then◌else◌, slice_index, ◌⊎◌}
use Rattle.std.specs.Char.{is_digit}
use Rattle.std.proofs.lemmas.Bool.Decides.{nat_tests}
use Rattle.iop_printf.specs.Texts.{string_at}
use Rattle.iop_sysclib.specs.NumeralLaws.{IsNoFront, HasNoDigit, NoBasesReadNothing, NoDigitsReadNothing}
use Rattle.iop_sysclib.specs.Numerals.{is_base, has_hex_prefix, base_of, reading_of}
use Rattle.iop_sysclib.proofs.EndLaws.{nothing_read}
use Rattle.iop_sysclib.proofs.NumeralFronts.{are_white, not_white}
use Rattle.iop_sysclib.proofs.NumeralLaws.{tells_decimal}
use Rattle.iop_sysclib.proofs.NumeralParts.{Signs, signs, by_prefix, IsSplit, parts_of}
use Rattle.iop_sysclib.proofs.Readings.{reading-nothing}

far_base : (base : ℕ) → 36 < base → is_base base ≡ false
far_base base far = grind (arith, nat_tests, far)

no_base : (base : ℕ) → (base ≡ 1) ⊎ (36 < base) → is_base base ≡ false
no_base base is = ⊎_elim (λ one. rw one refl) (λ far. far_base base far) is

unread_base : (base : ℕ) (text : List ℕ) → is_base base ≡ false
    → reading_of base text ≡ record { word = 0; len = 0 }
unfolding reading_of
unread_base base text is = rw is refl

pub no_bases_read_nothing : NoBasesReadNothing
no_bases_read_nothing memory at end base outcome none is =
    nothing_read memory at end base outcome
    (unread_base base (string_at memory.ram at) (no_base base none)) is

-- what stands in front where there is neither white space nor a sign
bare : (rest : List ℕ) → IsNoFront (slice_index rest 0) → Signs [] rest
bare [] front = record { stops_space = tt; unsigned = refl; minus = refl }
bare (d ∷ ds) front =
    let minus : (d == 45) ≡ false = ne_eqb d 45 front.no_minus in
    let plus : (d == 43) ≡ false = ne_eqb d 43 front.no_plus in
    record {
      stops_space = not_white d front.no_space;
      unsigned = rw (minus, plus) refl;
      minus = sym minus;
    }

-- a prefix begins with a digit
no_prefix : (b : Bool) (bytes : List ℕ) → (slice_index bytes 0 == 0x30) ≡ b
    → is_digit (slice_index bytes 0) 16 ≡ false → has_hex_prefix bytes ≡ false
no_prefix true bytes test none =
    let digit : is_digit (slice_index bytes 0) 16 ≡ true =
    ap (λ d. is_digit d 16) (eqb-true (slice_index bytes 0) 0x30 test) in
    absurd (cc (digit, none))
no_prefix false bytes test none = rw test refl

module _ (base : ℕ) (spaces sign rest : List ℕ) (is : HasNoDigit base spaces sign rest) where
  abbrev told : ℕ
  told = base_of base rest

  no_zero : is_digit (slice_index rest 0) 10 ≡ false → slice_index rest 0 ≢ 0x30
  no_zero none same =
      let digit : is_digit (slice_index rest 0) 10 ≡ true = ap (λ d. is_digit d 10) same in
      absurd (cc (digit, none))

  none_by : (zero : Bool) → (base == 0) ≡ zero
      → is_digit (slice_index rest 0) (if zero then 10 else base) ≡ false
      → is_digit (slice_index rest 0) told ≡ false
  none_by true test none =
      let told_is = tells_decimal rest (no_zero none) in
      let none_is = eqb-true base 0 test in
      ap (λ b. is_digit (slice_index rest 0) (base_of b rest)) none_is
      ∙ ap (is_digit (slice_index rest 0)) told_is ∙ none
  none_by false test none = rw test none

  no_digit : is_digit (slice_index rest 0) told ≡ false
  no_digit = none_by (base == 0) refl is.none

  plain : told ≡ 16 → has_hex_prefix rest ≡ false
  plain sixteen =
      no_prefix (slice_index rest 0 == 0x30) rest refl
      (ap (is_digit (slice_index rest 0)) (sym sixteen) ∙ no_digit)

  split : IsSplit base told spaces sign rest [] rest
  split = record {
    is_white = are_white spaces is.is_white;
    by_sign = signs sign rest (λ none. bare rest (is.ends none)) is.is_sign;
    told_is = refl;
    number_is = sym (by_prefix (told == 16) (has_hex_prefix rest) rest
        (λ same. plain (eqb-true told 16 same)));
    are_digits = refl;
    ends = no_digit;
  }

  unread_by : (b : Bool) → is_base base ≡ b
      → reading_of base (spaces ++ (sign ++ rest)) ≡ record { word = 0; len = 0 }
  unread_by false no_base = unread_base base (spaces ++ (sign ++ rest)) no_base
  unread_by true a_base =
      reading-nothing base (spaces ++ (sign ++ rest)) told (sign ++ rest) rest rest [] rest
      (parts_of base told spaces sign rest [] rest split) a_base refl

  pub unread_text : reading_of base (spaces ++ (sign ++ rest)) ≡ record { word = 0; len = 0 }
  unread_text = unread_by (is_base base) refl

pub no_digits_read_nothing : NoDigitsReadNothing
no_digits_read_nothing memory at end base outcome spaces sign rest text none is =
    nothing_read memory at end base outcome
    (ap (reading_of base) text ∙ unread_text base spaces sign rest none) is
