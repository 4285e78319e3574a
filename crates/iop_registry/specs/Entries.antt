-- The list of registered libraries, in order of their registration. The codes are those of ps2sdk's
-- kerr.h. That a library is told by its name and its major version alone, how many can stand, and
-- in which order the refusals come is this project's own profile.
use Rattle.std.specs.Prelude.{◌≡◌, ℕ, ◌+◌, ◌%◌, ◌^◌, ◌<◌, ◌≤◌, ◌==◌, nat_le, nat_lt, Bool, false, ◌&&◌, not, if◌then◌else◌, is_some, option_map, Option, Some, None, List, [], ◌∷◌, ◌++◌, length, filter, find, position, remove, All, AllPairs}
use Rattle.std.specs.Str.{bytes_eq}
use Rattle.iop_base.specs.declared.code.Code.{Code}
use Rattle.iop_base.specs.declared.code.TheConstants.Code.{OK, LIBRARY_FOUND, LIBRARY_NOT_FOUND, NO_MEMORY}
use Rattle.iop_registry.specs.declared.registry.Entry.{Entry}
use Rattle.iop_registry.specs.declared.registry.TheConstants.{MOST_LIBRARIES}

-- whether an entry is that of the library of this name and major version
abbrev pub is_library : List ℕ → ℕ → Entry → Bool
is_library name major entry = bytes_eq entry.name name && entry.major == major

abbrev pub has_table : ℕ → Entry → Bool
has_table table entry = entry.table == table

-- whether its table lies in the range of `len` bytes from `from` on
abbrev pub lies_in : ℕ → ℕ → Entry → Bool
lies_in from len entry = nat_le from entry.table && nat_lt entry.table (from + len)

-- the table of a library
abbrev pub table_of : List Entry → List ℕ → ℕ → Option ℕ
table_of entries name major =
    option_map (λ entry. entry.table) (find (is_library name major) entries)

-- the name and the major version of the first entry with this table
abbrev pub library_of : List Entry → ℕ → Option (List ℕ × ℕ)
library_of entries table =
    option_map (λ entry. (entry.name, entry.major)) (find (has_table table) entries)

-- what to register a library answers, and the list that it leaves
abbrev pub register : List Entry → List ℕ → ℕ → ℕ → Code × List Entry
register entries name major table =
    let entry : Entry = record { name = name; major = major; table = table } in
    if is_some (find (is_library name major) entries) then (LIBRARY_FOUND, entries)
    else if nat_lt (length entries) MOST_LIBRARIES then (OK, entries ++ entry ∷ [])
    else (NO_MEMORY, entries)

-- what to release the entry at this index answers, and the list that it leaves
abbrev pub release_at : List Entry → Option ℕ → Code × List Entry
release_at entries None = (LIBRARY_NOT_FOUND, entries)
release_at entries (Some index) = (OK, remove entries index)

-- what to release the first entry with this table answers, and the list that it leaves
abbrev pub release : List Entry → ℕ → Code × List Entry
release entries table = release_at entries (position (has_table table) entries)

-- the list without the entries whose tables lie in the range
abbrev pub drop_range : List Entry → ℕ → ℕ → List Entry
drop_range entries from len = filter (λ entry. not (lies_in from len entry)) entries

-- a table is a physical place, which is below 2^29 (MIPS I: KUSEG, KSEG0 and KSEG1), and a multiple
-- of 4
abbrev pub IsTable : ℕ → Type 0
IsTable table = (table < 2 ^ 29) × (table % 4 ≡ 0)

-- what holds of every registry
pub record IsRegistry (entries : List Entry) : Type 0 where
  pub few : length entries ≤ MOST_LIBRARIES
  pub tables : All (λ entry. IsTable entry.table) entries
  -- no two have the same name and major version
  pub distinct : AllPairs
      (λ first second. is_library second.name second.major first ≡ false) entries
