-- Export tables (ps2sdk's irx.h: the magic word, a word that is not looked at, version, mode and
-- name,
-- and then functions up to a word 0). That at most 1,024 functions count is this project's own
-- profile.
use Rattle.std.specs.Prelude.{ℕ, ◌+◌, ◌-◌, ◌/◌, ◌==◌, min, not, if◌then◌else◌, Option, Some, None, List, length, map}
use Rattle.std.specs.List.{take_while}
use Rattle.iop_base.specs.Numbers.{word_at, half_at}
use Rattle.irx_tables.specs.Places.{name_at, places}
use Rattle.iop_base.specs.declared.words.TheConstants.{EXPORT_MAGIC}
use Rattle.irx_tables.specs.declared.words.TheConstants.{HEADER_BYTES, MOST_FUNCTIONS}

-- a table's name and version, where its magic is there
abbrev pub header_of : List ℕ → ℕ → Option (List ℕ × ℕ)
header_of memory table =
    if word_at memory table == EXPORT_MAGIC
    then Some (name_at memory (table + 12), half_at memory (table + 8))
    else None

-- how many words behind a header can be functions: at most 1,024, each wholly in RAM
abbrev pub word_room : List ℕ → ℕ → ℕ
word_room memory table = min MOST_FUNCTIONS ((length memory - (table + HEADER_BYTES)) / 4)

-- the words behind a header
abbrev pub words_behind : List ℕ → ℕ → List ℕ
words_behind memory table =
    map (word_at memory) (places 4 (table + HEADER_BYTES) (word_room memory table))

-- its functions: the words before the first 0
unfoldable pub functions : List ℕ → ℕ → List ℕ
functions memory table = take_while (λ word. not (word == 0)) (words_behind memory table)
