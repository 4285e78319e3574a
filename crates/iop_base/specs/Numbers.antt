-- Numbers and the bytes that hold them. Bytes, halves and words are numbers below 2 ^ 8, 2 ^ 16 and
-- 2 ^ 32; in memory and in files the lowest byte comes first (little-endian, as the IOP's R3000
-- runs).
use Rattle.std.specs.Prelude.{ℕ, zero, suc, ◌+◌, ◌-◌, ◌*◌, ◌/◌, ◌%◌, ◌^◌, ◌<◌, nat_lt, Bool, if◌then◌else◌, ℤ, pos, ◌-ℤ◌, List, [], ◌∷◌, ◌++◌, slice_index, length, take, drop}
use Rattle.iop_base.specs.declared.width.Width.{Width}
use Rattle.iop_base.specs.declared.width.Width.TheVariants.{Byte, Half, Word}

-- a truth value as a number
abbrev pub one_if : Bool → ℕ
one_if b = if b then 1 else 0

abbrev pub IsByte : ℕ → Type 0
IsByte n = n < 2 ^ 8

abbrev pub IsHalf : ℕ → Type 0
IsHalf n = n < 2 ^ 16

abbrev pub IsWord : ℕ → Type 0
IsWord n = n < 2 ^ 32

-- the word that a sum or a difference leaves
abbrev pub wrapped : ℕ → ℕ
wrapped n = n % 2 ^ 32

-- a number of so many bits as two's complement
abbrev pub signed : ℕ → ℕ → ℤ
signed bits n = if nat_lt n (2 ^ (bits - 1)) then pos n else pos n -ℤ pos (2 ^ bits)

-- a signed number of so many bits as a word
abbrev pub sign_extended : (bits n : ℕ) → ℕ
sign_extended bits n = if nat_lt n (2 ^ (bits - 1)) then n else wrapped (n + (2 ^ 32 - 2 ^ bits))

-- the high half that gives an address together with its low half, which is signed
abbrev pub high_half : ℕ → ℕ
high_half address = wrapped (address + 0x8000) / 65536

abbrev pub width_bytes : Width → ℕ
width_bytes Byte = 1
width_bytes Half = 2
width_bytes Word = 4

-- the number in the n bytes from place p on
abbrev pub number_at : List ℕ → ℕ → ℕ → ℕ
number_at memory p zero = 0
number_at memory p (suc n) = slice_index memory p + 256 * number_at memory (p + 1) n

unfoldable pub half_at : List ℕ → ℕ → ℕ
half_at bytes p = number_at bytes p 2

unfoldable pub word_at : List ℕ → ℕ → ℕ
word_at bytes p = number_at bytes p 4

-- the lowest n bytes of a number
abbrev pub bytes_of : ℕ → ℕ → List ℕ
bytes_of zero value = []
bytes_of (suc n) value = (value % 256) ∷ bytes_of n (value / 256)

-- memory with these bytes from place p on
abbrev pub with_bytes : List ℕ → ℕ → List ℕ → List ℕ
with_bytes memory p bytes = take p memory ++ bytes ++ drop (p + length bytes) memory
