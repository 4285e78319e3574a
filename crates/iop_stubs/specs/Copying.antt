-- What a copy within a guest's memory stores (C's memmove: all bytes are read before any is
-- written). That one with no byte names no place is this project's own profile.
use Rattle.std.specs.Prelude.{ℕ, ◌==◌, if◌then◌else◌, Option, None, option_and_then, List}
use Rattle.iop_stubs.specs.Stubs.{Memory, range_place}
use Rattle.iop_stubs.specs.Lending.{range_bytes}

-- the physical place that a copy stores at: it has a byte, and both its ranges lie wholly in RAM
abbrev pub copy_place : Memory → (to from len : ℕ) → Option ℕ
copy_place memory to from len =
    if len == 0 then None
    else option_and_then (λ source. range_place memory to len) (range_place memory from len)

-- the bytes that it stores: those of the range that it reads
abbrev pub copied_bytes : Memory → (from len : ℕ) → List ℕ
copied_bytes memory from len = range_bytes memory.ram (range_place memory from len) len
