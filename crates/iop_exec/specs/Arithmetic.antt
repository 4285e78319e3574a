-- The words that instructions compute (MIPS I: the R3000's table of instructions). What a division
-- by 0 leaves, and that of 0x80000000 by -1, is this project's profile.
use Rattle.std.specs.Prelude.{ℕ, ◌+◌, ◌-◌, ◌*◌, ◌/◌, ◌%◌, ◌^◌, ◌==◌, nat_lt, Bool, if◌then◌else◌, Option, Some, None, ℤ, pos, negsuc, ◌*ℤ◌, int_lt, int_div, int_rem}
use Rattle.std.specs.Int.{w32, w64, cast_signed, cast_unsigned, int_shr}
use Rattle.iop_base.specs.Numbers.{wrapped}

-- a word as a signed number, in two's complement, and back
abbrev pub as_signed : ℕ → ℤ
as_signed word = cast_signed w32 word

abbrev pub as_word : ℤ → ℕ
as_word number = cast_unsigned w32 number

-- the word of a signed number, if it fits
abbrev pub fitting_word : ℤ → Option ℕ
fitting_word (pos n) = if nat_lt n (2 ^ 31) then Some (as_word (pos n)) else None
fitting_word (negsuc n) = if nat_lt n (2 ^ 31) then Some (as_word (negsuc n)) else None

abbrev pub left_shift : (word by : ℕ) → ℕ
left_shift word by = wrapped (word * 2 ^ by)

-- zeros come in
abbrev pub right_shift : (word by : ℕ) → ℕ
right_shift word by = word / 2 ^ by

-- copies of the sign come in: the quotient by 2 ^ by, rounded down
abbrev pub signed_shift : (word by : ℕ) → ℕ
signed_shift word by = as_word (int_shr (as_signed word) by)

-- the bits that are not set
abbrev pub complement : ℕ → ℕ
complement word = 0xFFFFFFFF - word

-- whether a word is less than another, as signed numbers
abbrev pub is_less : (a b : ℕ) → Bool
is_less a b = int_lt (as_signed a) (as_signed b)

abbrev pub is_negative : ℕ → Bool
is_negative word = int_lt (as_signed word) (pos 0)

-- the 64 bits of a signed product
abbrev pub signed_product : (a b : ℕ) → ℕ
signed_product a b = cast_unsigned w64 (as_signed a *ℤ as_signed b)

-- the signed quotient, cut toward 0. That of 0x80000000 by -1 is 0x80000000
abbrev pub signed_quotient : (a b : ℕ) → ℕ
signed_quotient a b =
    if b == 0 then (if is_negative a then 1 else 0xFFFFFFFF)
    else as_word (int_div (as_signed a) (as_signed b))

-- the signed remainder, with the sign of the first
abbrev pub signed_remainder : (a b : ℕ) → ℕ
signed_remainder a b = if b == 0 then a else as_word (int_rem (as_signed a) (as_signed b))

abbrev pub quotient : (a b : ℕ) → ℕ
quotient a b = if b == 0 then 0xFFFFFFFF else a / b

abbrev pub remainder : (a b : ℕ) → ℕ
remainder a b = if b == 0 then a else a % b

-- the bits of the first from a bit on, over those of the second below it
abbrev pub splice : (bit upper lower : ℕ) → ℕ
splice bit upper lower = upper / 2 ^ bit * 2 ^ bit + lower % 2 ^ bit

-- so many bits of its aligned word stand below a place
abbrev pub bits_below : ℕ → ℕ
bits_below at = 8 * (at % 4)

-- what lwl and lwr leave of the aligned word and the register's old value
abbrev pub left_load : (at word old : ℕ) → ℕ
left_load at word old = splice (24 - bits_below at) (left_shift word (24 - bits_below at)) old

abbrev pub right_load : (at word old : ℕ) → ℕ
right_load at word old = splice (32 - bits_below at) old (right_shift word (bits_below at))

-- what swl and swr leave of the register's value and the aligned word
abbrev pub left_store : (at value word : ℕ) → ℕ
left_store at value word = splice (bits_below at + 8) word (right_shift value (24 - bits_below at))

abbrev pub right_store : (at value word : ℕ) → ℕ
right_store at value word = splice (bits_below at) (left_shift value (bits_below at)) word
