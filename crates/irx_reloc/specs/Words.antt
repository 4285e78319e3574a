-- A word put at a place of bytes, lowest byte first (little-endian, as the IOP's R3000 runs and its
-- files are).
use Rattle.std.specs.Prelude.{ℕ, List}
use Rattle.iop_base.specs.Numbers.{bytes_of, with_bytes}

-- the bytes with a word at a place
unfoldable pub with_word : List ℕ → ℕ → ℕ → List ℕ
with_word bytes place word = with_bytes bytes place (bytes_of 4 word)
