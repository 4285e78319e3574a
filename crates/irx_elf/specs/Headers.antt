-- The headers of an ELF file (ELF TIS 1.2) as records of the fields that the rules of an IRX file
-- name. Numbers are little-endian.
use Rattle.std.specs.Prelude.{ℕ, ◌+◌, ◌*◌, ◌==◌, Bool, List, map, filter}
use Rattle.std.specs.List.{range_with_len}
use Rattle.iop_base.specs.Numbers.{half_at, word_at}
use Rattle.irx_elf.specs.declared.file_header.FileHeader.{FileHeader}
use Rattle.irx_elf.specs.declared.segment.Segment.{Segment}
use Rattle.irx_elf.specs.declared.section.Section.{Section}

-- the file header: e_type, e_machine, e_phoff, e_shoff, e_phentsize, e_phnum, e_shentsize, e_shnum
abbrev pub file_header : List ℕ → FileHeader
file_header file = record {
  kind = half_at file 16;
  machine = half_at file 18;
  segments = word_at file 28;
  sections = word_at file 32;
  segment_size = half_at file 42;
  segment_count = half_at file 44;
  section_size = half_at file 46;
  section_count = half_at file 48;
}

-- the program header at a place: p_type, p_offset, p_filesz, p_memsz
abbrev pub segment_at : List ℕ → ℕ → Segment
segment_at file p = record {
  at = p;
  kind = word_at file p;
  offset = word_at file (p + 4);
  file_size = word_at file (p + 16);
  memory_size = word_at file (p + 20);
}

abbrev pub segment_number : List ℕ → ℕ → Segment
segment_number file n = segment_at file ((file_header file).segments + 32 * n)

-- the program headers, in order
unfoldable pub segments : List ℕ → List Segment
segments file = map (segment_number file) (range_with_len 0 (file_header file).segment_count)

abbrev pub is_of_kind : ℕ → Segment → Bool
is_of_kind kind segment = segment.kind == kind

-- the section header at a place: sh_type, sh_flags, sh_offset, sh_size, sh_info
abbrev pub section_at : List ℕ → ℕ → Section
section_at file p = record {
  at = p;
  kind = word_at file (p + 4);
  flags = word_at file (p + 8);
  offset = word_at file (p + 16);
  size = word_at file (p + 20);
  target = word_at file (p + 28);
}

abbrev pub section_number : List ℕ → ℕ → Section
section_number file n = section_at file ((file_header file).sections + 40 * n)

-- the section headers, in order
unfoldable pub sections : List ℕ → List Section
sections file = map (section_number file) (range_with_len 0 (file_header file).section_count)

-- a section of relocation entries has type 9
abbrev pub is_relocations : Section → Bool
is_relocations section = section.kind == 9

-- the section headers of type 9, in order
unfoldable pub relocation_sections : List ℕ → List Section
relocation_sections file = filter is_relocations (sections file)
