-- What an IRX file consists of: each part is the file's bytes at the place that a header names.
-- That relocation entries of a section which takes no memory are not applied is this project's own
-- profile.
use Rattle.std.specs.Prelude.{◌≡◌, ℕ, ◌/◌, ◌%◌, ◌^◌, ◌<◌, ◌≤◌, ◌==◌, Bool, ◌||◌, if◌then◌else◌, Result, List, [], length, map, filter, drop, All}
use Rattle.iop_base.specs.declared.illegal.Illegal.{Illegal}
use Rattle.irx_info.specs.Information.{Information}
use Rattle.irx_elf.specs.Headers.{section_number, sections, is_relocations, relocation_sections}
use Rattle.irx_elf.specs.Rules.{bytes_at, image_segment, image_length, module_information, unmet_rule, ok_unless}
use Rattle.irx_elf.specs.declared.section.Section.{Section}

pub record Parts : Type 0 where
  -- the image's bytes in the file
  pub image : List ℕ
  -- how many bytes it takes in memory
  pub length : ℕ
  pub info : Information
  -- the relocation entries of each section
  pub lists : List (List ℕ)

-- whether a section takes memory: the flag SHF_ALLOC is 2
abbrev pub takes_memory : Section → Bool
takes_memory section = section.flags / 2 % 2 == 1

-- whether relocation entries are applied: they name section 0, or one that takes memory
abbrev pub is_applied : List ℕ → Section → Bool
is_applied file section = section.target == 0 || takes_memory (section_number file section.target)

-- the entries of a section, none where they are not applied
abbrev pub list_of : List ℕ → Section → List ℕ
list_of file section =
    if is_applied file section then bytes_at file section.offset section.size else []

-- a list for each section of relocation entries, in order
unfoldable pub lists_of : List ℕ → List (List ℕ)
lists_of file = map (list_of file) (relocation_sections file)

-- those of the section headers from a number on
unfoldable pub lists_from : List ℕ → ℕ → List (List ℕ)
lists_from file number = map (list_of file) (filter is_relocations (drop number (sections file)))

abbrev pub parts_of : List ℕ → Parts
parts_of file =
    let image = image_segment file in
    record {
      image = bytes_at file image.offset image.file_size;
      length = image_length (module_information file) image;
      info = module_information file;
      lists = lists_of file;
    }

-- the parts of a file that meets every rule, or the first rule that it does not meet
abbrev pub parts_or_rule : List ℕ → Result Parts Illegal
parts_or_rule file = ok_unless (unmet_rule file) (parts_of file)

-- what holds of the parts of every IRX file
pub record IsSound (parts : Parts) : Type 0 where
  pub text : 4 ≤ parts.info.text_size
  pub text_within : parts.info.text_size ≤ length parts.image
  pub image_within : length parts.image ≤ parts.length
  pub short : parts.length < 2 ^ 31
  -- an entry has 8 bytes
  pub entries : All (λ list. length list % 8 ≡ 0) parts.lists
