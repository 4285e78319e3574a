-- Relocation entries as they stand in a section (ELF TIS 1.2, Elf32_Rel): eight bytes, of which the
-- first four are the site, a place in the image, and the low 8 bits of the others the type. The
-- types are those of the System V ABI's MIPS supplement.
use Rattle.std.specs.Prelude.{ℕ, ◌+◌, ◌*◌, ◌/◌, ◌%◌, ◌==◌, Bool, List, length, map}
use Rattle.std.specs.List.{range_with_len}
use Rattle.iop_base.specs.Numbers.{word_at}
use Rattle.iop_base.specs.declared.relocation_types.TheConstants.{R_MIPS_LO16}

-- the site and the type of a section's entry k
abbrev pub entry_at : List ℕ → ℕ → ℕ × ℕ
entry_at bytes k = (word_at bytes (8 * k), word_at bytes (8 * k + 4) % 256)

-- the sites and types of a section's entries
unfoldable pub entries_of : List ℕ → List (ℕ × ℕ)
entries_of bytes = map (entry_at bytes) (range_with_len 0 (length bytes / 8))

-- those of each section
abbrev pub all_entries : List (List ℕ) → List (List (ℕ × ℕ))
all_entries sections = map entries_of sections

abbrev pub is_low : ℕ × ℕ → Bool
is_low entry = entry.1 == R_MIPS_LO16
