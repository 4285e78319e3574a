-- White space and the prefix of base 16, as they are computed.
use Rattle.std.proofs.Common.{◌≡◌, ℕ, nat_le, Bool, true, false, eqb-true, List, [], ◌∷◌, refl, arith, inl, inr}
use Rattle.std.specs.Prelude.{◌==◌, ◌&&◌, ◌||◌, All, slice_index}
use Rattle.std.specs.Char.{is_digit}
use Rattle.std.specs.List.{list_all}
use Rattle.std.proofs.lemmas.Bool.{leb-true}
use Rattle.std.proofs.lemmas.Bool.Decides.{nat_tests}
use Rattle.std.proofs.lemmas.List.Elements.{All-head, All-tail}
use Rattle.iop_sysclib.specs.NumeralLaws.{IsWhite, IsPrefixed}
use Rattle.iop_sysclib.specs.Numerals.{is_space, has_hex_prefix}

white_byte : (byte : ℕ) → IsWhite byte → is_space byte ≡ true
white_byte byte (inl blank) = rw blank refl
white_byte byte (inr within) =
    let low = within.0 in let high = within.1 in grind (arith, nat_tests, low, high)

pub are_white : (spaces : List ℕ) → All IsWhite spaces → list_all is_space spaces ≡ true
are_white [] white = refl
are_white (x ∷ xs) white =
    let first = white_byte x (All-head IsWhite x xs white) in
    let rest = are_white xs (All-tail IsWhite x xs white) in
    rw (first, rest) refl

not_white_by : (blank low high : Bool) (byte : ℕ) → (byte == 0x20) ≡ blank
    → nat_le 0x09 byte ≡ low → nat_le byte 0x0D ≡ high → ¬ IsWhite byte
    → (blank || low && high) ≡ false
not_white_by true low high byte blank_is low_is high_is none =
    absurd (none (inl (eqb-true byte 0x20 blank_is)))
not_white_by false true true byte blank_is low_is high_is none =
    absurd (none (inr (leb-true 0x09 byte low_is, leb-true byte 0x0D high_is)))
not_white_by false true false byte blank_is low_is high_is none = refl
not_white_by false false high byte blank_is low_is high_is none = refl

pub not_white : (byte : ℕ) → ¬ IsWhite byte → is_space byte ≡ false
not_white byte none =
    not_white_by (byte == 0x20) (nat_le 0x09 byte) (nat_le byte 0x0D) byte refl refl refl none

unprefixed_by : (zero small large digit : Bool) (bytes : List ℕ)
    → (slice_index bytes 0 == 0x30) ≡ zero → (slice_index bytes 1 == 0x78) ≡ small
    → (slice_index bytes 1 == 0x58) ≡ large → is_digit (slice_index bytes 2) 16 ≡ digit
    → ¬ IsPrefixed bytes → (zero && (small || large) && digit) ≡ false
unprefixed_by false small large digit bytes zero_is small_is large_is digit_is none = refl
unprefixed_by true false false digit bytes zero_is small_is large_is digit_is none = refl
unprefixed_by true true large false bytes zero_is small_is large_is digit_is none = refl
unprefixed_by true false true false bytes zero_is small_is large_is digit_is none = refl
unprefixed_by true true large true bytes zero_is small_is large_is digit_is none =
    absurd (none (record {
      is_zero = eqb-true (slice_index bytes 0) 0x30 zero_is;
      is_letter = inl (eqb-true (slice_index bytes 1) 0x78 small_is);
      is_digit_behind = digit_is;
    }))
unprefixed_by true false true true bytes zero_is small_is large_is digit_is none =
    absurd (none (record {
      is_zero = eqb-true (slice_index bytes 0) 0x30 zero_is;
      is_letter = inr (eqb-true (slice_index bytes 1) 0x58 large_is);
      is_digit_behind = digit_is;
    }))

pub unprefixed : (bytes : List ℕ) → ¬ IsPrefixed bytes → has_hex_prefix bytes ≡ false
unprefixed bytes none =
    unprefixed_by (slice_index bytes 0 == 0x30) (slice_index bytes 1 == 0x78)
    (slice_index bytes 1 == 0x58) (is_digit (slice_index bytes 2) 16) bytes refl refl refl refl none
