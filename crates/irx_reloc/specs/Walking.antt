-- What the code reads of entries, and the LO16 entry that comes next on its walk over a section.
use Rattle.std.specs.Prelude.{◌≡◌, ℕ, ◌<◌, ◌≤◌, Bool, false, true, None, List, length, slice_index_or}
use Rattle.irx_reloc.specs.declared.entry.Entry.{Entry}
use Rattle.irx_reloc.specs.Entries.{is_low}
use Rattle.irx_reloc.specs.Kinds.{type_of}
use Rattle.irx_reloc.specs.Fitting.{broken_rule}

-- the site and the type of an entry that was read
abbrev pub pair_of : Entry → ℕ × ℕ
pair_of entry = (entry.site, type_of entry.kind)

-- an entry breaks no rule, where has_low says whether a LO16 stands behind it
abbrev pub EntryFits : ℕ → Entry → Type 0
EntryFits size entry = (has_low : Bool) × (broken_rule size (pair_of entry) has_low ≡ None)

abbrev pub is_low_at : List (ℕ × ℕ) → ℕ → Bool
is_low_at entries k = is_low (slice_index_or entries k (0, 0))

-- `low` is the index of the first LO16 from an index on, or the number of entries where none is one
pub record IsNextLow (entries : List (ℕ × ℕ)) (from low : ℕ) : Type 0 where
  pub after : from ≤ low
  pub within : low ≤ length entries
  pub none_before : (k : ℕ) → from ≤ k → k < low → is_low_at entries k ≡ false
  pub is_one : low < length entries → is_low_at entries low ≡ true
