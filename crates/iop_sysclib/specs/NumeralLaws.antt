-- What the laws of the numbers say that texts begin with, in other words than their definition.
use Rattle.std.specs.Prelude.{◌≡◌, ◌≢◌, ◌⊎◌, ℕ, ◌+◌, ◌-◌, ◌^◌, ◌==◌, ◌<◌, ◌≤◌, if◌then◌else◌, true, false, Some, List, [], ◌∷◌, ◌++◌, length, slice_index, All}
use Rattle.std.specs.Char.{is_digit}
use Rattle.std.specs.List.{list_all}
use Rattle.std.specs.Str.Parse.{digits_value, starts_with_minus}
use Rattle.iop_base.specs.Numbers.{wrapped}
use Rattle.iop_base.specs.Places.{load_at}
use Rattle.iop_base.specs.declared.width.Width.TheVariants.{Word}
use Rattle.iop_printf.specs.Texts.{string_at}
use Rattle.iop_stubs.specs.Stubs.{Memory}
use Rattle.iop_sysclib.specs.Numerals.{held_word, reading_of, strtol}
use Rattle.iop_sysclib.specs.Outcomes.{Outcome}
use Rattle.iop_sysclib.specs.WritingLaws.{ram_after}

-- a space, or a byte from tab to carriage return
abbrev pub IsWhite : ℕ → Type 0
IsWhite byte = (byte ≡ 0x20) ⊎ ((9 ≤ byte) × (byte ≤ 13))

-- `0x` or `0X` stands in front, and a digit of base 16 behind it
pub record IsPrefixed (bytes : List ℕ) : Type 0 where
  pub is_zero : slice_index bytes 0 ≡ 0x30
  pub is_letter : (slice_index bytes 1 ≡ 0x78) ⊎ (slice_index bytes 1 ≡ 0x58)
  pub is_digit_behind : is_digit (slice_index bytes 2) 16 ≡ true

-- white space, `+`, `-` or no sign, and at least one digit of a base, behind which none stands; in
-- base 16 there is no prefix
pub record IsNumeral (base : ℕ) (spaces sign digits rest : List ℕ) : Type 0 where
  pub least : 2 ≤ base
  pub greatest : base ≤ 36
  pub is_white : All IsWhite spaces
  pub is_sign : (sign ≡ []) ⊎ ((sign ≡ 0x2B ∷ []) ⊎ (sign ≡ 0x2D ∷ []))
  pub are_digits : list_all (λ b. is_digit b base) digits ≡ true
  pub some : 0 < length digits
  pub ends : is_digit (slice_index rest 0) base ≡ false
  pub plain : base ≡ 16 → ¬ IsPrefixed (digits ++ rest)

-- the number of these digits was read, and what stands before their end counts
pub record ReadsNumeral (base : ℕ) (spaces sign digits rest : List ℕ) : Type 0 where
  pub word_is : (reading_of base (spaces ++ (sign ++ (digits ++ rest)))).word
      ≡ held_word (starts_with_minus sign) (digits_value base digits)
  pub len_is : (reading_of base (spaces ++ (sign ++ (digits ++ rest)))).len
      ≡ length spaces + (length sign + length digits)

abbrev pub NumeralsAreRead : Type 0
NumeralsAreRead =
    (base : ℕ) (spaces sign digits rest : List ℕ) → IsNumeral base spaces sign digits rest
    → ReadsNumeral base spaces sign digits rest

-- with base 0 a number of base 8 that begins with `0`, and with no prefix, is read as in base 8
abbrev pub OctalsAreTold : Type 0
OctalsAreTold =
    (spaces sign digits rest : List ℕ) → IsNumeral 8 spaces sign digits rest
    → slice_index digits 0 ≡ 0x30 → ¬ IsPrefixed (digits ++ rest)
    → let text = spaces ++ (sign ++ (digits ++ rest)) in reading_of 0 text ≡ reading_of 8 text

-- and one of base 10 that does not begin with `0` as in base 10
abbrev pub DecimalsAreTold : Type 0
DecimalsAreTold =
    (spaces sign digits rest : List ℕ) → IsNumeral 10 spaces sign digits rest
    → slice_index digits 0 ≢ 0x30
    → let text = spaces ++ (sign ++ (digits ++ rest)) in reading_of 0 text ≡ reading_of 10 text

-- white space, a sign or none, `0x` or `0X`, and at least one digit of base 16, behind which none
-- stands
pub record IsHexNumeral (base letter : ℕ) (spaces sign digits rest : List ℕ) : Type 0 where
  pub is_base : (base ≡ 0) ⊎ (base ≡ 16)
  pub is_letter : (letter ≡ 0x78) ⊎ (letter ≡ 0x58)
  pub is_white : All IsWhite spaces
  pub is_sign : (sign ≡ []) ⊎ ((sign ≡ 0x2B ∷ []) ⊎ (sign ≡ 0x2D ∷ []))
  pub are_digits : list_all (λ b. is_digit b 16) digits ≡ true
  pub some : 0 < length digits
  pub ends : is_digit (slice_index rest 0) 16 ≡ false

-- the number of the digits behind the prefix is read
abbrev pub HexNumeralsAreRead : Type 0
HexNumeralsAreRead =
    (base letter : ℕ) (spaces sign digits rest : List ℕ)
    → IsHexNumeral base letter spaces sign digits rest
    → reading_of base (spaces ++ (sign ++ (0x30 ∷ letter ∷ (digits ++ rest)))) ≡ record {
      word = held_word (starts_with_minus sign) (digits_value 16 digits);
      len = length spaces + (length sign + (2 + length digits));
    }

-- a magnitude beyond a limit gives the limit, and every other one its number
pub record IsHeldAtLimits (magnitude : ℕ) : Type 0 where
  pub greatest : 2 ^ 31 - 1 < magnitude → held_word false magnitude ≡ 0x7FFFFFFF
  pub positive : magnitude ≤ 2 ^ 31 - 1 → held_word false magnitude ≡ magnitude
  pub least : 2 ^ 31 < magnitude → held_word true magnitude ≡ 0x80000000
  pub negative : magnitude ≤ 2 ^ 31 → held_word true magnitude ≡ wrapped (2 ^ 32 - magnitude)

abbrev pub MagnitudesAreHeld : Type 0
MagnitudesAreHeld = (magnitude : ℕ) → IsHeldAtLimits magnitude

-- the word at `end` is the address behind the last digit
abbrev pub EndsAreLeft : Type 0
EndsAreLeft =
    (memory : Memory) (at end base : ℕ) (outcome : Outcome) → end ≢ 0
    → strtol memory.ram at end base ≡ Some outcome
    → load_at (ram_after memory outcome) end Word
    ≡ Some (wrapped (at + (reading_of base (string_at memory.ram at)).len))

-- nothing was read: the answer is 0, and the word at `end` is the address of the text
pub record ReadsNothing (memory : Memory) (at end : ℕ) (outcome : Outcome) : Type 0 where
  pub answer : outcome.answer ≡ 0
  pub left : end ≢ 0 → load_at (ram_after memory outcome) end Word ≡ Some (wrapped at)

-- a base that numbers do not have
abbrev pub NoBasesReadNothing : Type 0
NoBasesReadNothing =
    (memory : Memory) (at end base : ℕ) (outcome : Outcome) → (base ≡ 1) ⊎ (36 < base)
    → strtol memory.ram at end base ≡ Some outcome → ReadsNothing memory at end outcome

-- a byte that is neither white space nor a sign
pub record IsNoFront (byte : ℕ) : Type 0 where
  pub no_space : ¬ IsWhite byte
  pub no_plus : byte ≢ 0x2B
  pub no_minus : byte ≢ 0x2D

-- white space, a sign or none, and no digit behind; with base 0 a digit of base 10 is one
pub record HasNoDigit (base : ℕ) (spaces sign rest : List ℕ) : Type 0 where
  pub is_white : All IsWhite spaces
  pub is_sign : (sign ≡ []) ⊎ ((sign ≡ 0x2B ∷ []) ⊎ (sign ≡ 0x2D ∷ []))
  pub ends : sign ≡ [] → IsNoFront (slice_index rest 0)
  pub none : is_digit (slice_index rest 0) (if base == 0 then 10 else base) ≡ false

abbrev pub NoDigitsReadNothing : Type 0
NoDigitsReadNothing =
    (memory : Memory) (at end base : ℕ) (outcome : Outcome) (spaces sign rest : List ℕ)
    → string_at memory.ram at ≡ spaces ++ (sign ++ rest) → HasNoDigit base spaces sign rest
    → strtol memory.ram at end base ≡ Some outcome → ReadsNothing memory at end outcome
