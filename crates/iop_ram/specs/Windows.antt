-- Ranges of memory that are looked at, or stored into, as they stand. That a range not wholly in RAM has
-- none is this project's own profile; the size of RAM is the length of the list of its bytes.
use Rattle.std.specs.Prelude.{ℕ, Option, option_map, List, length, take, drop}
use Rattle.std.specs.Option.{option_map_or}
use Rattle.std.specs.Borrow.{Lends, MutBor, Fml, Array, u8}
use Rattle.iop_base.specs.Numbers.{with_bytes}
use Rattle.iop_base.specs.Places.{range_at}
use Rattle.iop_ram.specs.contracts.memory.Ram.{the_row}

-- the bytes of a range that lies wholly in RAM
abbrev pub window_of : List ℕ → ℕ → ℕ → Option (List ℕ)
window_of memory at len = option_map (λ p. take len (drop p memory)) (range_at (length memory) at len)

-- the memory that a store of bytes leaves
abbrev pub store_bytes_at : List ℕ → ℕ → List ℕ → Option (List ℕ)
store_bytes_at memory at bytes =
    option_map (λ p. with_bytes memory p bytes) (range_at (length memory) at (length bytes))

-- the memory that a loan of a range leaves where these bytes were written: it keeps its size
abbrev pub after_loan : List ℕ → ℕ → ℕ → List ℕ → List ℕ
after_loan memory at len written =
    option_map_or (λ p. take (length memory) (with_bytes memory p written))
    (range_at (length memory) at len) memory

-- memory lends the bytes of a range: what they are when the loan ends is what it has there
abbrev pub LendsRange : MutBor (List ℕ) → ℕ → ℕ → MutBor (List ℕ) → Fml
LendsRange memory at len window =
    Lends the_row (Array u8 0) memory window (after_loan memory.now at len)
