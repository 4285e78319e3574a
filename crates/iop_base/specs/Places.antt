-- Addresses and the places in RAM that they name (MIPS I: KUSEG, KSEG0 and KSEG1). The size of RAM
-- is the length of the list of its bytes. That every other address faults is this project's
-- profile.
use Rattle.std.specs.Prelude.{◌≡◌, ◌⊎◌, ℕ, ◌+◌, ◌/◌, ◌%◌, ◌==◌, nat_le, nat_lt, Bool, ◌&&◌, ◌||◌, if◌then◌else◌, Option, Some, None, option_map, option_and_then, List, length}
use Rattle.iop_base.specs.Numbers.{width_bytes, number_at, bytes_of, with_bytes}
use Rattle.iop_base.specs.declared.width.Width.{Width}

-- how many bytes RAM may have: 2 MiB, as in a PlayStation 2, or 8 MiB, as in its development
-- console
abbrev pub IsRamSize : ℕ → Type 0
IsRamSize size = (size ≡ 0x200000) ⊎ (size ≡ 0x800000)

-- the segments through which RAM is seen: KUSEG from 0, KSEG0 from 0x80000000, KSEG1 from
-- 0xA0000000
abbrev pub is_mapped : ℕ → Bool
is_mapped segment = segment == 0 || segment == 4 || segment == 5

-- the physical place of an address in a RAM of this size
abbrev pub phys : ℕ → ℕ → Option ℕ
phys size at =
    if is_mapped (at / 0x20000000) && nat_lt (at % 0x20000000) size
    then Some (at % 0x20000000) else None

-- the physical place of a range that lies wholly in RAM, also of one with no byte
abbrev pub range_at : ℕ → ℕ → ℕ → Option ℕ
range_at size at len =
    option_and_then (λ p. if nat_le (p + len) size then Some p else None) (phys size at)

-- the physical place of an access: a multiple of its width, wholly in RAM
abbrev pub access_at : ℕ → ℕ → ℕ → Option ℕ
access_at size at width = if at % width == 0 then range_at size at width else None

-- the unsigned number that a load reads
abbrev pub load_at : List ℕ → ℕ → Width → Option ℕ
load_at memory at width =
    option_map (λ p. number_at memory p (width_bytes width))
    (access_at (length memory) at (width_bytes width))

-- the memory that a store leaves: the low bytes of the value in their place
abbrev pub store_at : List ℕ → ℕ → Width → ℕ → Option (List ℕ)
store_at memory at width value =
    option_map (λ p. with_bytes memory p (bytes_of (width_bytes width) value))
    (access_at (length memory) at (width_bytes width))
