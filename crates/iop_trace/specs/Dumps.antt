-- The lines of a dump: bytes of memory behind their address. This project's profile.
use Rattle.std.specs.Prelude.{ℕ, ◌+◌, ◌-◌, ◌*◌, ◌/◌, List, ◌++◌, codes, length, take, drop, map}
use Rattle.std.specs.List.{flat_map, range_with_len}
use Rattle.iop_base.specs.Text.{hex, hex_digits}
use Rattle.iop_trace.specs.declared.dump.TheConstants.{BYTES_IN_LINE}

-- a line: the address with eight hexadecimal digits, and two of each byte
unfoldable pub dump_line : (at : ℕ) → List ℕ → List ℕ
dump_line at bytes = hex at ++ codes ": " ++ flat_map (hex_digits 2) bytes ++ codes "\n"

-- the line of this number, from 0 on, of bytes from an address on: it has 16 of them, or those that are
-- left
abbrev pub numbered_line : (at : ℕ) → List ℕ → (number : ℕ) → List ℕ
numbered_line at bytes number =
    let before = BYTES_IN_LINE * number in
    dump_line (at + before) (take BYTES_IN_LINE (drop before bytes))

-- the lines of bytes from an address on, so many that each byte is in one
unfoldable pub dump_lines : (at : ℕ) → List ℕ → List (List ℕ)
dump_lines at bytes = map (numbered_line at bytes)
    (range_with_len 0 ((length bytes + (BYTES_IN_LINE - 1)) / BYTES_IN_LINE))
