-- The conversions of a format: `%`, flags, a width, a precision, sizes and a letter. This project's
-- profile, after printf of C.
use Rattle.std.specs.Prelude.{ℕ, ◌+◌, ◌-◌, ◌*◌, ◌==◌, min, Bool, not, ◌||◌, if◌then◌else◌, Option, Some, None, option_map, unwrap_or, List, [], ◌∷◌, length, take, drop, fold, position}
use Rattle.std.specs.Char.{is_ascii_digit}
use Rattle.std.specs.List.{list_any}
use Rattle.std.specs.Option.{option_map_or}
use Rattle.iop_printf.specs.declared.TheConstants.{LONGEST}
use Rattle.iop_printf.specs.declared.conversion.Conversion.{Conversion}
use Rattle.iop_printf.specs.declared.letter.Letter.{Letter}
use Rattle.iop_printf.specs.declared.letter.Letter.TheVariants.{Number, Character, Text, Percent}
use Rattle.iop_printf.specs.declared.notation.Notation.TheVariants.{Signed, Unsigned, Octal, LowerHex, UpperHex, Pointer}

-- `%`
abbrev pub percent : ℕ
percent = 0x25

-- `-`, which puts a text to the left
abbrev pub minus : ℕ
minus = 0x2D

-- `0`, which fills a number with zeros
abbrev pub zero_digit : ℕ
zero_digit = 0x30

abbrev pub is_flag : ℕ → Bool
is_flag b = b == minus || b == zero_digit

-- `h` and `l`, which change nothing
abbrev pub is_size : ℕ → Bool
is_size b = b == 0x68 || b == 0x6C

-- how many bytes at the front pass a test
abbrev pub front_len : (ℕ → Bool) → List ℕ → ℕ
front_len test bytes = unwrap_or (position (λ b. not (test b)) bytes) (length bytes)

-- the longest front of which all bytes pass a test, and what stands behind it
abbrev pub front : (ℕ → Bool) → List ℕ → List ℕ
front test bytes = take (front_len test bytes) bytes

abbrev pub behind : (ℕ → Bool) → List ℕ → List ℕ
behind test bytes = drop (front_len test bytes) bytes

-- a width or a precision: no digits are 0, and a greater one than 4,096 counts as that
abbrev pub value_of : List ℕ → ℕ
value_of digits = min LONGEST (fold (λ n b. n * 10 + (b - 0x30)) 0 digits)

-- what stands behind a point at the front, if there is one
abbrev pub behind_point : List ℕ → Option (List ℕ)
behind_point [] = None
behind_point (b ∷ rest) = if b == 0x2E then Some rest else None

-- a point and digits at the front, and what stands behind them
abbrev pub precision_at : List ℕ → Option ℕ
precision_at bytes = option_map (λ rest. value_of (front is_ascii_digit rest)) (behind_point bytes)

abbrev pub behind_precision : List ℕ → List ℕ
behind_precision bytes = option_map_or (behind is_ascii_digit) (behind_point bytes) bytes

unfoldable pub letter_of : ℕ → Option Letter
letter_of b =
    if b == 0x64 || b == 0x69 then Some (Number Signed) else  -- d, i
    if b == 0x75 then Some (Number Unsigned) else  -- u
    if b == 0x6F then Some (Number Octal) else  -- o
    if b == 0x78 then Some (Number LowerHex) else  -- x
    if b == 0x58 then Some (Number UpperHex) else  -- X
    if b == 0x70 then Some (Number Pointer) else  -- p
    if b == 0x63 then Some Character else  -- c
    if b == 0x73 then Some Text else  -- s
    if b == percent then Some Percent
    else None

-- the letter at the front; there is none at the end, nor where another byte stands
abbrev pub letter_at : List ℕ → Option Letter
letter_at [] = None
letter_at (b ∷ rest) = letter_of b

-- the parts of a conversion: what stands behind its flags, behind its width, and from its letter on
abbrev pub behind_flags : List ℕ → List ℕ
behind_flags bytes = behind is_flag bytes

abbrev pub behind_width : List ℕ → List ℕ
behind_width bytes = behind is_ascii_digit (behind_flags bytes)

abbrev pub from_letter : List ℕ → List ℕ
from_letter bytes = behind is_size (behind_precision (behind_width bytes))

-- the conversion that these bytes begin, behind its `%`: it ends with its letter, or with the byte, or
-- the end of the format, that stands in its place
unfoldable pub conversion_at : List ℕ → Conversion
conversion_at bytes = record {
  left = list_any (λ b. b == minus) (front is_flag bytes);
  zeros = list_any (λ b. b == zero_digit) (front is_flag bytes);
  width = value_of (front is_ascii_digit (behind_flags bytes));
  precision = precision_at (behind_width bytes);
  letter = letter_at (from_letter bytes);
  len = length bytes - length (drop 1 (from_letter bytes));
}
