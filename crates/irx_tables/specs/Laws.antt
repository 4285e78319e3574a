-- What the laws on import tables say.
use Rattle.std.specs.Prelude.{◌≡◌, ℕ, ◌+◌, ◌-◌, ◌%◌, ◌<◌, ◌≤◌, true, false, Option, Some, None, List, [], ◌∷◌}
use Rattle.irx_tables.specs.Imports.{ImportTable, is_start, table_at, and_then, next_table, tables_from, tables_of}

-- no start stands from one place on before another
abbrev pub HasNoStart : List ℕ → ℕ → ℕ → Type 0
HasNoStart memory low high = (p : ℕ) → low ≤ p → p < high → p % 4 ≡ 0 → is_start memory p ≡ false

-- p is the first start from `scan` on
pub record IsFirstStart (memory : List ℕ) (stop scan p : ℕ) : Type 0 where
  pub after : scan ≤ p
  pub inside : p + 8 ≤ stop
  pub aligned : p % 4 ≡ 0
  pub start : is_start memory p ≡ true
  pub first : HasNoStart memory scan p

-- each table stands at the first start behind the one before it, within the range; behind the last
-- there
-- is no start, or the first start is that of the bad table
abbrev pub AreAll : List ℕ → ℕ → ℕ → List ImportTable → Option ℕ → Type 0
AreAll memory stop scan [] None = HasNoStart memory scan (stop - 7)
AreAll memory stop scan [] (Some p) =
    IsFirstStart memory stop scan p × (table_at memory stop p ≡ None)
AreAll memory stop scan (table ∷ tables) bad =
    IsFirstStart memory stop scan table.at × (table_at memory stop table.at ≡ Some table)
    × (table.at < table.end) × (table.end ≤ stop) × AreAll memory stop table.end tables bad

abbrev pub TablesAreAll : Type 0
TablesAreAll =
    (memory : List ℕ) (from len : ℕ) → from % 4 ≡ 0
    → AreAll memory (from + len) from (tables_of memory from len).whole
    (tables_of memory from len).bad

-- the tables from a place on are the next one and those from its end on
abbrev pub TablesFollow : Type 0
TablesFollow =
    (memory : List ℕ) (stop scan : ℕ)
    → tables_from memory stop scan
    ≡ and_then (tables_from memory stop) (next_table memory stop scan)
