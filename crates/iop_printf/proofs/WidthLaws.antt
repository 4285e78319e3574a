-- The laws of widths and of precisions.
use Rattle.std.proofs.Common.{◌≡◌, ℕ, ◌+◌, ◌-◌, ◌%◌, max, Bool, true, false, not, cond, ◌&&◌, is_none, Option, Some, None, unwrap_or, List, [], ◌∷◌, ◌++◌, length, replicate, refl, ap, sym, subst, ◌∙◌, append-nil, arith}
use Rattle.std.proofs.lemmas.Bool.{and_parts}
use Rattle.std.proofs.lemmas.List.{length-append, length-replicate}
use Rattle.iop_printf.proofs.Padding.{padded_full}
use Rattle.iop_printf.specs.Conversions.{zero_digit}
use Rattle.iop_printf.specs.Laws.{FillsWidth, FillsDigits, WidthsAreExact, DigitsAreExact, zeros_fill, bare_text}
use Rattle.iop_printf.specs.Texts.{string_or_null, string_front, digits_of, sign_of, least_digits, number_text, padded, letter_text}
use Rattle.iop_printf.specs.declared.conversion.Conversion.{Conversion}
use Rattle.iop_printf.specs.declared.letter.Letter.TheVariants.{Number, Character, Text, Percent}
use Rattle.iop_printf.specs.declared.notation.Notation.{Notation}

abbrev without_width : Conversion → Conversion
without_width c = record c { width = 0 }

module _ (c : Conversion) (text : List ℕ) where
  abbrev spaces : List ℕ
  spaces = replicate (c.width - length text) 0x20

  length-padded : length (padded c text) ≡ max c.width (length text)
  length-padded = by_side c.left
    where
      fill : length spaces ≡ c.width - length text
      fill = length-replicate {A = ℕ} (c.width - length text) 0x20

      by_side : (left : Bool)
          → length (cond left (text ++ spaces) (spaces ++ text)) ≡ max c.width (length text)
      by_side true = omega (arith, length-append text spaces, fill)
      by_side false = omega (arith, length-append spaces text, fill)

  padded_fills : (zeros : Bool) → FillsWidth c zeros text (padded c text)
  padded_fills zeros = record {
    len = length-padded;
    left = λ is_left. record {
      count = c.width - length text;
      whole = rw is_left (sym (append-nil (text ++ spaces)));
    };
    right = λ is_right _. record {
      count = c.width - length text;
      whole = rw is_right refl;
    };
  }

padded_bare : (c : Conversion) (text : List ℕ) → padded (without_width c) text ≡ text
padded_bare c text = padded_full (without_width c) text (omega arith)

-- a text that does not depend on the width
others_fill : (c : Conversion) (text : List ℕ)
    → FillsWidth c false (padded (without_width c) text) (padded c text)
others_fill c text = rw (padded_bare c text) (padded_fills c text false)

-- the least number of digits, where no zeros fill a width
least_is : (precision : Option ℕ) (zeros : Bool) (width : ℕ)
    → ((zeros && is_none precision) ≡ true → width ≡ 0)
    → unwrap_or precision (cond zeros width 0) ≡ unwrap_or precision 0
least_is (Some p) zeros width none = refl
least_is None true width none = none refl
least_is None false width none = refl

none_is : (precision : Option ℕ) → is_none precision ≡ true → precision ≡ None
none_is (Some p) none = absurd (cc none)
none_is None none = refl

not_both : {P : Type 0} (b : Bool) → not b ≡ true → b ≡ true → P
not_both true is_false is_true = absurd (cc is_false)
not_both false is_false is_true = absurd (cc is_true)

module _ (ram : List ℕ) (c : Conversion) (notation : Notation) (n : ℕ) where
  abbrev sign : List ℕ
  sign = sign_of notation n

  abbrev numeral : List ℕ
  numeral = digits_of notation n

  abbrev zeros : Bool
  zeros = zeros_fill c (Number notation)

  abbrev bare : List ℕ
  bare = bare_text ram c (Number notation) n

  abbrev text : List ℕ
  text = letter_text ram c (Number notation) n

  -- a number of so many digits at least
  abbrev filled : ℕ → List ℕ
  filled least = sign ++ replicate (least - length numeral) zero_digit ++ numeral

  length-filled : (least : ℕ) → length (filled least) ≡ length sign + max least (length numeral)
  length-filled least =
      let fill = replicate (least - length numeral) zero_digit in
      omega (
        arith,
        length-append (sign ++ fill) numeral,
        length-append sign fill,
        length-replicate (least - length numeral) zero_digit,
      )

  bare_is : bare ≡ filled (unwrap_or c.precision 0)
  bare_is =
      padded_bare c (number_text (without_width c) sign numeral)
      ∙ ap filled (least_is c.precision (c.zeros && not c.left) (0 - length sign) (λ _. omega arith))

  length-bare : length bare ≡ length sign + max (unwrap_or c.precision 0) (length numeral)
  length-bare = ap (λ (t : List ℕ). length t) bare_is ∙ length-filled (unwrap_or c.precision 0)

  module _ (fills : zeros ≡ true) where
    no_precision : c.precision ≡ None
    no_precision = none_is c.precision (and_parts (c.zeros && not c.left) _ fills).1

    zeros_are : text ≡ filled (c.width - length sign)
    zeros_are =
        let flags = (and_parts (c.zeros && not c.left) (is_none c.precision) fills).0 in
        let least : least_digits c sign ≡ c.width - length sign =
        rw (no_precision, flags) refl in
        let long = length-filled (c.width - length sign) in
        ap (λ k. padded c (filled k)) least
        ∙ padded_full c (filled (c.width - length sign)) (omega (arith, long))

  width_by : (b : Bool) → zeros ≡ b → FillsWidth c b bare text
  width_by true fills =
      let none = ap (λ p. unwrap_or p 0) (no_precision fills) in
      let long =
      ap (λ (t : List ℕ). length t) (zeros_are fills) ∙ length-filled (c.width - length sign) in
      let flags = (and_parts (c.zeros && not c.left) (is_none c.precision) fills).0 in record {
        len = omega (arith, none, long, length-bare);
        left = λ is_left. not_both c.left (and_parts c.zeros (not c.left) flags).1 is_left;
        right = λ _ others. absurd (cc others);
      }
  width_by false others =
      let least =
      least_is c.precision (c.zeros && not c.left) (c.width - length sign)
      (λ fills. let wrong : true ≡ false = sym fills ∙ others in absurd (cc wrong)) in
      subst (λ t. FillsWidth c false t text) (ap filled least ∙ sym bare_is)
      (padded_fills c (number_text c sign numeral) false)

  fills_digits : FillsDigits c zeros sign numeral bare text
  fills_digits = record {
    len = length-bare;
    digits = record { count = unwrap_or c.precision 0 - length numeral; whole = bare_is };
    width = λ fills. record {
      count = c.width - length sign - length numeral;
      whole = zeros_are fills;
    };
  }

pub letter_text-width : WidthsAreExact
letter_text-width ram c (Number notation) n other =
    width_by ram c notation n (zeros_fill c (Number notation)) refl
letter_text-width ram c Character n other = others_fill c (n % 256 ∷ [])
letter_text-width ram c Text n other =
    others_fill c (string_front c.precision (string_or_null ram n))
letter_text-width ram c Percent n other = absurd (other refl)

pub letter_text-digits : DigitsAreExact
letter_text-digits ram c notation n = fills_digits ram c notation n
