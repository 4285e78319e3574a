-- Listings of memory: a line for each word, which is its address, the word, its text and a line
-- feed. An address that is not a multiple of 4 or not in RAM has no line. This project's own
-- profile.
use Rattle.std.specs.Prelude.{ℕ, zero, suc, ◌+◌, ◌*◌, Option, Some, None, List, [], ◌++◌, codes}
use Rattle.iop_base.specs.Numbers.{wrapped}
use Rattle.iop_base.specs.Places.{load_at}
use Rattle.iop_base.specs.Text.{hex}
use Rattle.iop_base.specs.declared.width.Width.TheVariants.{Word}
use Rattle.iop_disasm.specs.Spelling.{inst_bytes}

-- the line of the word that an address holds
abbrev pub line_of : ℕ → Option ℕ → List ℕ
line_of at None = []
line_of at (Some word) =
    hex at ++ codes ": " ++ hex word ++ codes " " ++ inst_bytes word at ++ codes "\n"

-- the line of an address
unfoldable pub line_at : List ℕ → ℕ → List ℕ
line_at memory at = line_of at (load_at memory at Word)

-- the lines of so many words from an address on; behind the last address comes 0
abbrev pub listing_bytes : List ℕ → (from words : ℕ) → List ℕ
listing_bytes memory from zero = []
listing_bytes memory from (suc n) =
    listing_bytes memory from n ++ line_at memory (wrapped (from + 4 * n))
