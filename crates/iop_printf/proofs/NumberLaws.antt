-- The laws of numbers: their digits, and their signs.
use Rattle.std.proofs.Common.{◌≡◌, ℕ, zero, suc, ◌-◌, ◌*◌, ◌/◌, ◌%◌, ◌^◌, ◌<◌, ◌==◌, nat_lt, Bool, true, false, cond, pos, ◌-ℤ◌, decimal, List, [], ◌∷◌, ◌++◌, length, refl, ap, ◌∙◌, arith}
use Rattle.std.specs.Char.{digit_char, is_ascii_lowercase, is_ascii_uppercase}
use Rattle.std.specs.Fmt.{digit_glyph, digits, digits_onto, signed_decimal}
use Rattle.std.specs.Str.Parse.{AllDigits, digits_value}
use Rattle.std.proofs.Math.Nat.{div-lt_iff_lt-mul, pow-suc}
use Rattle.std.proofs.lemmas.Bool.{lt-ltb}
use Rattle.std.proofs.lemmas.Bool.Decides.{nat_tests}
use Rattle.std.proofs.lemmas.Fmt.{digits_is_IsNumeral}
use Rattle.std.proofs.lemmas.Int.Digits.{digits_push, digits_value_push}
use Rattle.std.proofs.lemmas.List.{length-append}
use Rattle.std.proofs.lemmas.List.Folds.{list_any-append}
use Rattle.std.proofs.lemmas.Str.{digit_value-digit_char}
use Rattle.iop_base.specs.Text.{hex, hex_digits}
use Rattle.iop_printf.specs.Conversions.{minus}
use Rattle.iop_printf.specs.Laws.{Reads, HasNo, NumbersReadBack, SignedAreWritten, HexDigitsAreWritten}
use Rattle.iop_printf.specs.Texts.{digits_of}

length-hex_digits : (k n : ℕ) → length (hex_digits k n) ≡ k
length-hex_digits zero n = refl
length-hex_digits (suc k) n =
    omega (
      arith,
      length-append (hex_digits k (n / 16)) (digit_char (n % 16) ∷ []),
      length-hex_digits k (n / 16),
    )

hex_digits_read : (k n : ℕ) → n < 16 ^ k
    → AllDigits 16 (hex_digits k n) × (digits_value 16 (hex_digits k n) ≡ n)
hex_digits_read zero n small = (tt, omega (arith, small))
hex_digits_read (suc k) n small =
    let digit = digit_char (n % 16) in
    let value = digit_value-digit_char (n % 16) (omega arith) in
    let front = hex_digits k (n / 16) in
    let less : n < 16 ^ k * 16 = omega (arith, small, pow-suc 16 k) in
    let reads = hex_digits_read k (n / 16) ((div-lt_iff_lt-mul (omega arith)).1 less) in (
      digits_push 16 front digit reads.0 (omega (arith, value)),
      digits_value_push 16 front digit ∙ omega (arith, reads.1, value),
    )

-- no byte of a numeral passes a test that no digit passes
module _ (test : ℕ → Bool) (upper : Bool)
    (none : (d : ℕ) → d < 16 → test (digit_glyph upper d) ≡ false) where
  both_ends : (b : Bool) (ended others : List ℕ) → HasNo test ended → HasNo test others
      → HasNo test (cond b ended others)
  both_ends true ended others ended_has others_has = ended_has
  both_ends false ended others ended_has others_has = others_has

  digits_onto_pass : (k n : ℕ) (rest : List ℕ) → HasNo test rest
      → HasNo test (digits_onto k 16 upper n rest)
  digits_onto_pass zero n rest rest_has = rest_has
  digits_onto_pass (suc k) n rest rest_has =
      let more : HasNo test (digit_glyph upper (n % 16) ∷ rest) =
      rw (none (n % 16) (omega arith)) rest_has in
      both_ends (n / 16 == 0) _ _ more (digits_onto_pass k (n / 16) _ more)

  digits_pass : (n : ℕ) → HasNo test (digits 16 upper n)
  unfolding digits
  digits_pass n = digits_onto_pass 64 n [] refl

lower_glyph : (d : ℕ) → d < 16 → is_ascii_uppercase (digit_glyph false d) ≡ false
lower_glyph d small = grind (arith, nat_tests)

upper_glyph : (d : ℕ) → d < 16 → is_ascii_lowercase (digit_glyph true d) ≡ false
upper_glyph d small = grind (arith, nat_tests)

hex_digits_lower : (k n : ℕ) → HasNo is_ascii_uppercase (hex_digits k n)
hex_digits_lower zero n = refl
hex_digits_lower (suc k) n =
    let digit = digit_glyph false (n % 16) in
    list_any-append is_ascii_uppercase (hex_digits k (n / 16)) (digit ∷ [])
    ∙ rw (hex_digits_lower k (n / 16), lower_glyph (n % 16) (omega arith)) refl

word_reads : (n : ℕ) → n < 2 ^ 32 → Reads 16 n (hex_digits 8 n)
word_reads n word =
    let reads = hex_digits_read 8 n word in
    ((omega (arith, length-hex_digits 8 n), reads.0), reads.1)

pub digits_of-value : NumbersReadBack
unfolding digits_of hex
digits_of-value n word = record {
  unsigned = digits_is_IsNumeral 10 false (omega arith) (omega arith) n (omega (arith, word));
  octal = digits_is_IsNumeral 8 false (omega arith) (omega arith) n (omega (arith, word));
  lower_hex = digits_is_IsNumeral 16 false (omega arith) (omega arith) n (omega (arith, word));
  upper_hex = digits_is_IsNumeral 16 true (omega arith) (omega arith) n (omega (arith, word));
  pointer = word_reads n word;
}

pub digits_of-hex : HexDigitsAreWritten
unfolding digits_of hex
digits_of-hex n = record {
  lower_hex = digits_pass is_ascii_uppercase false lower_glyph n;
  upper_hex = digits_pass is_ascii_lowercase true upper_glyph n;
  pointer = hex_digits_lower 8 n;
  pointer_length = length-hex_digits 8 n;
}

by_sign : (n : ℕ) (b : Bool) → nat_lt n (2 ^ 31) ≡ b → n < 2 ^ 32
    → cond b [] (minus ∷ []) ++ decimal (cond b n (2 ^ 32 - n))
    ≡ signed_decimal (cond b (pos n) (pos n -ℤ pos (2 ^ 32)))
by_sign n true low word = refl
by_sign n false high word =
    let far : 2 ^ 32 - n ≡ suc (2 ^ 32 - suc n) = omega (arith, word) in
    rw (lt-ltb n (2 ^ 32) word) (ap (λ m. minus ∷ decimal m) far)

pub digits_of-signed : SignedAreWritten
unfolding digits_of
digits_of-signed n word = by_sign n (nat_lt n (2 ^ 31)) refl word
