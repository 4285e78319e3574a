-- The numbers that texts begin with (C99 7.20.1.4: strtol, in the locale "C"). That nothing is read
-- in a base that numbers do not have, and that the address is looked at before all else, is this
-- project's own profile.
use Rattle.std.specs.Prelude.{ℕ, ◌+◌, ◌-◌, ◌%◌, ◌==◌, nat_le, nat_lt, Bool, ◌&&◌, ◌||◌, if◌then◌else◌, pos, neg_ℤ, Option, None, List, length, drop, slice_index}
use Rattle.std.specs.Char.{is_digit}
use Rattle.std.specs.Int.{w32, cast_unsigned, saturate_signed}
use Rattle.std.specs.Str.Parse.{digits_value, starts_with_minus, without_leading_sign}
use Rattle.iop_base.specs.Numbers.{bytes_of, wrapped}
use Rattle.iop_printf.specs.Conversions.{front, behind}
use Rattle.iop_printf.specs.Texts.{string_at}
use Rattle.iop_sysclib.specs.Outcomes.{Outcome, answers, writes}
use Rattle.iop_sysclib.specs.declared.base.TheConstants.{LEAST_BASE, GREATEST_BASE}
use Rattle.iop_sysclib.specs.declared.reading.Reading.{Reading}

-- the bases that numbers may have; 0 stands for the one that their front tells
abbrev pub is_base : ℕ → Bool
is_base base = base == 0 || nat_le LEAST_BASE base && nat_le base GREATEST_BASE

-- a space, or one of the bytes from tab to carriage return
abbrev pub is_space : ℕ → Bool
is_space b = b == 0x20 || nat_le 0x09 b && nat_le b 0x0D

-- whether `0x` or `0X` stands in front, and a digit of base 16 behind it
abbrev pub has_hex_prefix : List ℕ → Bool
has_hex_prefix bytes =
    slice_index bytes 0 == 0x30 && (slice_index bytes 1 == 0x78 || slice_index bytes 1 == 0x58)
    && is_digit (slice_index bytes 2) 16

-- the base that the front of an unsigned number tells
abbrev pub told_base : List ℕ → ℕ
told_base bytes =
    if has_hex_prefix bytes then 16 else if slice_index bytes 0 == 0x30 then 8 else 10

-- the base of an unsigned number
abbrev pub base_of : ℕ → List ℕ → ℕ
base_of base bytes = if base == 0 then told_base bytes else base

-- an unsigned number of this base without the prefix of base 16
abbrev pub without_prefix : ℕ → List ℕ → List ℕ
without_prefix base bytes = if base == 16 && has_hex_prefix bytes then drop 2 bytes else bytes

-- a number held at -2 ^ 31 and 2 ^ 31 - 1, as a word
abbrev pub held_word : (negative : Bool) (magnitude : ℕ) → ℕ
held_word negative magnitude =
    cast_unsigned w32
    (saturate_signed w32 (if negative then neg_ℤ (pos magnitude) else pos magnitude))

-- what a text begins with: white space, one sign, a prefix, and the longest run of digits; nothing
-- is read where there is no digit, or no such base
unfoldable pub reading_of : ℕ → List ℕ → Reading
reading_of base text =
    let signed = behind is_space text in
    let unsigned = without_leading_sign signed in
    let told = base_of base unsigned in
    let rest = without_prefix told unsigned in
    let digits = front (λ b. is_digit b told) rest in
    if is_base base && nat_lt 0 (length digits)
    then record {
      word = held_word (starts_with_minus signed) (digits_value told digits);
      len = length text - length (behind (λ b. is_digit b told) rest);
    }
    else record { word = 0; len = 0 }

module _ (ram : List ℕ) where
  -- the number at an address; the address behind its last digit is written where `end` is not 0
  unfoldable pub strtol : (at end base : ℕ) → Option Outcome
  strtol at end base =
      let reading = reading_of base (string_at ram at) in
      if end == 0 then answers reading.word else
      if end % 4 == 0 then writes ram end (bytes_of 4 (wrapped (at + reading.len))) reading.word
      else None
