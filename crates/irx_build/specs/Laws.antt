-- What the laws of the definitions say.
use Rattle.std.specs.Prelude.{◌≡◌, ℕ, None, Ok, List, map, All}
use Rattle.std.specs.List.{flat_map}
use Rattle.iop_base.specs.Numbers.{IsByte, IsWord}
use Rattle.irx_elf.specs.Parts.{parts_or_rule}
use Rattle.irx_reloc.specs.Entries.{entries_of}
use Rattle.iop_asm.specs.Units.{ModuleUnit}
use Rattle.iop_asm.specs.declared.relocation.Relocation.{Relocation}
use Rattle.irx_build.specs.Files.{entry_bytes, info_of, file_of}
use Rattle.irx_build.specs.Building.{refusal, HasNumbers}
use Rattle.irx_build.specs.UnitParts.{unit_parts}

-- the file of a unit that is not refused meets every rule, and its parts are the unit's
abbrev pub FilesAreParsed : Type 0
FilesAreParsed =
    (unit : ModuleUnit) → HasNumbers (info_of unit) → refusal unit ≡ None
    → parts_or_rule (file_of unit) ≡ Ok (unit_parts unit)

-- site and type of a relocation entry are a word and a byte
abbrev pub HasRoom : Relocation → Type 0
HasRoom entry = IsWord entry.site × IsByte entry.kind

abbrev pub site_and_type : Relocation → ℕ × ℕ
site_and_type entry = (entry.site, entry.kind)

-- relocation entries are read back as their sites and types
abbrev pub EntriesAreRead : Type 0
EntriesAreRead =
    (entries : List Relocation) → All HasRoom entries
    → entries_of (flat_map entry_bytes entries) ≡ map site_and_type entries
