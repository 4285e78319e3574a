-- The IRX file of a module's unit, as its parts one after the other. Headers and relocation entries
-- are those of ELF TIS 1.2; the types of the file and of its parts, and the module information, are
-- ps2sdk's; the order of the parts is this project's own profile. Numbers are little-endian.
use Rattle.std.specs.Prelude.{ℕ, ◌+◌, ◌-◌, ◌*◌, Bool, nat_lt, if◌then◌else◌, List, [], ◌∷◌, ◌++◌, length, replicate}
use Rattle.std.specs.List.{flat_map}
use Rattle.std.specs.Int.{next_multiple_of}
use Rattle.iop_base.specs.Numbers.{bytes_of}
use Rattle.irx_info.specs.Information.{Information}
use Rattle.iop_asm.specs.Units.{ModuleUnit}
use Rattle.iop_asm.specs.declared.relocation.Relocation.{Relocation}

-- the bytes of half words, and of words
abbrev pub halves : List ℕ → List ℕ
halves numbers = flat_map (bytes_of 2) numbers

abbrev pub words : List ℕ → List ℕ
words numbers = flat_map (bytes_of 4) numbers

-- the zeros that follow so many bytes, up to a multiple of 4
abbrev pub padding : ℕ → List ℕ
padding size = replicate (next_multiple_of size 4 - size) 0

-- the file header: e_entry, e_shoff and e_shnum are not the same in each file
unfoldable pub header_bytes : ℕ → ℕ → ℕ → List ℕ
header_bytes entry sections section_count =
    0x7F ∷ 0x45 ∷ 0x4C ∷ 0x46 ∷ 1 ∷ 1 ∷ 1 ∷ 0 ∷ 0 ∷ 0 ∷ 0 ∷ 0 ∷ 0 ∷ 0 ∷ 0 ∷ 0 ∷ []
    -- e_type and e_machine
    ++ halves (0xFF80 ∷ 8 ∷ [])
    -- e_version, e_entry, e_phoff, e_shoff and e_flags
    ++ words (1 ∷ entry ∷ 52 ∷ sections ∷ 0 ∷ [])
    -- e_ehsize, e_phentsize, e_phnum, e_shentsize, e_shnum and e_shstrndx
    ++ halves (52 ∷ 32 ∷ 2 ∷ 40 ∷ section_count ∷ 0 ∷ [])

-- the module information stands behind three headers, of 52, 32 and 32 bytes
abbrev pub info_place : ℕ
info_place = 116

-- the program header of the module information, which may be read: p_type, p_offset, p_vaddr,
-- p_paddr, p_filesz, p_memsz, p_flags and p_align
unfoldable pub info_segment_bytes : ℕ → List ℕ
info_segment_bytes size = words (0x70000080 ∷ info_place ∷ 0 ∷ 0 ∷ size ∷ size ∷ 4 ∷ 4 ∷ [])

-- that of the image, which may be read, written and executed
unfoldable pub image_segment_bytes : ℕ → ℕ → ℕ → List ℕ
image_segment_bytes place file_size memory_size =
    words (1 ∷ place ∷ 0 ∷ 0 ∷ file_size ∷ memory_size ∷ 7 ∷ 16 ∷ [])

-- module information: six words, a half word, and the name up to a zero byte
unfoldable pub info_bytes : Information → List ℕ
info_bytes info =
    words (info.id ∷ info.entry ∷ info.gp ∷ info.text_size ∷ info.data_size ∷ info.bss_size ∷ [])
    ++ halves (info.version ∷ [])
    ++ info.name
    ++ 0 ∷ []

-- a relocation entry: its site, and the word whose low byte is its type
abbrev pub entry_bytes : Relocation → List ℕ
entry_bytes entry = words (entry.site ∷ entry.kind ∷ [])

-- a section header of no type, and that of the relocation entries: sh_name, sh_type, sh_flags,
-- sh_addr, sh_offset, sh_size, sh_link, sh_info, sh_addralign and sh_entsize
unfoldable pub section_bytes : ℕ → ℕ → List ℕ
section_bytes place size =
    replicate 40 0 ++ words (0 ∷ 9 ∷ 0 ∷ 0 ∷ place ∷ size ∷ 0 ∷ 0 ∷ 4 ∷ 8 ∷ [])

-- what the file says of the module
abbrev pub info_of : ModuleUnit → Information
info_of unit = record {
  id = 0xFFFFFFFF;
  entry = unit.entry;
  gp = unit.gp;
  text_size = length unit.text;
  data_size = length unit.«data»;
  bss_size = unit.bss;
  version = unit.version;
  name = unit.name;
}

-- how many bytes that takes
abbrev pub info_size : ModuleUnit → ℕ
info_size unit = 27 + length unit.name

-- the image's bytes in the file, and how many it takes in memory
abbrev pub image_of : ModuleUnit → List ℕ
image_of unit = unit.text ++ unit.«data»

abbrev pub image_size : ModuleUnit → ℕ
image_size unit = length unit.text + length unit.«data»

abbrev pub image_length : ModuleUnit → ℕ
image_length unit = image_size unit + unit.bss

-- the relocation entries: whether there are any, their bytes, and how many
abbrev pub has_relocations : ModuleUnit → Bool
has_relocations unit = nat_lt 0 (length unit.relocations)

abbrev pub entry_list : ModuleUnit → List ℕ
entry_list unit = flat_map entry_bytes unit.relocations

abbrev pub entries_size : ModuleUnit → ℕ
entries_size unit = 8 * length unit.relocations

-- where the image begins in the file, the relocation entries, and the section headers
abbrev pub image_place : ModuleUnit → ℕ
image_place unit = info_place + next_multiple_of (info_size unit) 4

abbrev pub entries_place : ModuleUnit → ℕ
entries_place unit = image_place unit + next_multiple_of (image_size unit) 4

abbrev pub sections_place : ModuleUnit → ℕ
sections_place unit = if has_relocations unit then entries_place unit + entries_size unit else 0

abbrev pub section_count : ModuleUnit → ℕ
section_count unit = if has_relocations unit then 2 else 0

-- the three headers, 116 bytes
abbrev pub headers_part : ModuleUnit → List ℕ
headers_part unit =
    header_bytes unit.entry (sections_place unit) (section_count unit)
    ++ info_segment_bytes (info_size unit)
    ++ image_segment_bytes (image_place unit) (image_size unit) (image_length unit)

-- the module information, and zeros up to a multiple of 4
abbrev pub info_part : ModuleUnit → List ℕ
info_part unit = info_bytes (info_of unit) ++ padding (info_size unit)

-- zeros up to a multiple of 4, the relocation entries and the section headers, where there are
-- entries
abbrev pub entries_part : ModuleUnit → List ℕ
entries_part unit =
    if has_relocations unit then
    padding (image_size unit)
    ++ entry_list unit
    ++ section_bytes (entries_place unit) (entries_size unit)
    else []

-- the parts one after the other
unfoldable pub file_of : ModuleUnit → List ℕ
file_of unit = headers_part unit ++ info_part unit ++ image_of unit ++ entries_part unit
