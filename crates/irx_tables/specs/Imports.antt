-- Import tables (ps2sdk's irx.h: the magic word, a word 0, version, mode and name, stubs of two
-- instructions, two words 0). What is a start, where the search goes on and what makes a table bad
-- are
-- this project's own profile. A range is given by the place behind it, `stop`.
use Rattle.std.specs.Prelude.{ℕ, ◌+◌, ◌-◌, ◌*◌, ◌/◌, ◌^◌, ◌==◌, nat_le, nat_lt, Bool, ◌&&◌, if◌then◌else◌, zero, suc, Option, Some, None, option_map, List, [], ◌∷◌, length, map}
use Rattle.std.specs.List.{find, take_while}
use Rattle.iop_base.specs.Numbers.{word_at, half_at}
use Rattle.iop_base.specs.declared.words.TheConstants.{IMPORT_MAGIC, JUMP_BACK, STUB_INDEX}
use Rattle.irx_tables.specs.Places.{name_at, places}
use Rattle.irx_tables.specs.declared.words.TheConstants.{HEADER_BYTES}

-- the first two words of a table
abbrev pub is_start : List ℕ → ℕ → Bool
is_start memory p = word_at memory p == IMPORT_MAGIC && word_at memory (p + 4) == 0

-- the least start from `scan` on whose two words lie in the range
unfoldable pub first_start : List ℕ → ℕ → ℕ → Option ℕ
first_start memory stop scan = find (is_start memory) (places 4 scan ((stop - scan) / 4 - 1))

-- addiu $0, $0, n
abbrev pub has_index : ℕ → Bool
has_index word = nat_le STUB_INDEX word && nat_lt word (STUB_INDEX + 2 ^ 16)

-- jr $ra; addiu $0, $0, n
abbrev pub is_stub : List ℕ → ℕ → Bool
is_stub memory p =
    word_at memory p == JUMP_BACK && has_index (word_at memory (p + 4))

-- the place and the index n of a stub
abbrev pub stub_at : List ℕ → ℕ → ℕ × ℕ
stub_at memory p = (p, word_at memory (p + 4) - STUB_INDEX)

-- the stubs that follow one another from p on, each wholly in the range
unfoldable pub stubs_from : List ℕ → ℕ → ℕ → List (ℕ × ℕ)
stubs_from memory stop p =
    map (stub_at memory) (take_while (is_stub memory) (places 8 p ((stop - p) / 8)))

-- two words 0
abbrev pub is_end : List ℕ → ℕ → Bool
is_end memory p = word_at memory p == 0 && word_at memory (p + 4) == 0

-- the stubs from p on, where the two words 0 follow them in the range: none where another pair of
-- words
-- comes first, or the range ends
unfoldable pub ended_stubs : List ℕ → ℕ → ℕ → Option (List (ℕ × ℕ))
ended_stubs memory stop p =
    let stubs = stubs_from memory stop p in
    let behind = p + 8 * length stubs in
    if nat_le (behind + 8) stop && is_end memory behind then Some stubs else None

pub record ImportTable : Type 0 where
  -- the place of its first word
  pub at : ℕ
  pub name : List ℕ
  pub version : ℕ
  -- each stub's place and index
  pub stubs : List (ℕ × ℕ)
  -- the place behind it
  pub end : ℕ

-- a header of 20 bytes, the stubs and the two words 0
abbrev pub table_with : List ℕ → ℕ → List (ℕ × ℕ) → ImportTable
table_with memory p stubs = record {
  at = p;
  name = name_at memory (p + 12);
  version = half_at memory (p + 8);
  stubs = stubs;
  end = p + HEADER_BYTES + 8 * length stubs + 8;
}

-- the table that starts at p, unless it is bad
abbrev pub table_at : List ℕ → ℕ → ℕ → Option ImportTable
table_at memory stop p =
    option_map (table_with memory p) (ended_stubs memory stop (p + HEADER_BYTES))

-- what a search comes to first
pub data Found : Type 0 where
  -- no start is left
  Nothing : Found
  Whole : ImportTable → Found
  -- the place of a bad table
  Broken : ℕ → Found

-- what stands at a start
abbrev pub found_at : ℕ → Option ImportTable → Found
found_at p None = Broken p
found_at p (Some table) = Whole table

abbrev pub found_by : List ℕ → ℕ → Option ℕ → Found
found_by memory stop None = Nothing
found_by memory stop (Some p) = found_at p (table_at memory stop p)

-- the first table from `scan` on
abbrev pub next_table : List ℕ → ℕ → ℕ → Found
next_table memory stop scan = found_by memory stop (first_start memory stop scan)

-- all tables of a range, and the place of the bad one at which the search stops
pub record ImportTables : Type 0 where
  pub whole : List ImportTable
  pub bad : Option ℕ

-- what was found, and behind a whole table what stands from its end on
abbrev pub and_then : (ℕ → ImportTables) → Found → ImportTables
and_then rest Nothing = record { whole = []; bad = None }
and_then rest (Whole table) =
    record { whole = table ∷ (rest table.end).whole; bad = (rest table.end).bad }
and_then rest (Broken p) = record { whole = []; bad = Some p }

-- the first n tables from `scan` on
unfoldable pub first_tables : ℕ → List ℕ → ℕ → ℕ → ImportTables
first_tables zero memory stop scan = record { whole = []; bad = None }
first_tables (suc n) memory stop scan =
    and_then (first_tables n memory stop) (next_table memory stop scan)

-- all tables from `scan` on, of which there are fewer than bytes
abbrev pub tables_from : List ℕ → ℕ → ℕ → ImportTables
tables_from memory stop scan = first_tables (stop - scan) memory stop scan

-- all tables of a range of so many bytes
abbrev pub tables_of : List ℕ → ℕ → ℕ → ImportTables
tables_of memory from len = tables_from memory (from + len) from
