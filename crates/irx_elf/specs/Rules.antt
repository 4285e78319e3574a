-- The twelve rules of an IRX file (ELF TIS 1.2; the types of the file and of its parts are
-- ps2sdk's). Their order, and the place that stands for each, are this project's own profile. Sums
-- do not wrap.
use Rattle.std.specs.Prelude.{◌≡◌, ℕ, ◌+◌, ◌*◌, ◌%◌, ◌^◌, max, ◌==◌, nat_eq, nat_le, nat_lt, Bool, ◌&&◌, ◌||◌, if◌then◌else◌, is_some, unwrap_or, Option, Some, None, option_and_then, Result, Ok, Err, List, [], ◌∷◌, ◌++◌, length, map, take, drop, find}
use Rattle.std.specs.List.{starts_with}
use Rattle.iop_base.specs.declared.illegal.Illegal.{Illegal}
use Rattle.irx_info.specs.Information.{Information, information_in, information_with}
use Rattle.irx_elf.specs.Headers.{file_header, segment_at, segments, is_of_kind, relocation_sections}
use Rattle.irx_elf.specs.declared.file_header.FileHeader.{FileHeader}
use Rattle.irx_elf.specs.declared.segment.Segment.{Segment}
use Rattle.irx_elf.specs.declared.section.Section.{Section}

-- a rule by its number, whether it is met, and the place in the file that stands for it
pub record Rule : Type 0 where
  pub number : ℕ
  pub is_met : Bool
  pub at : ℕ

abbrev pub rule : ℕ → Bool → ℕ → Rule
rule number is_met at = record { number = number; is_met = is_met; at = at }

-- the first that is not met
abbrev pub first_unmet : List Rule → Option Illegal
first_unmet [] = None
first_unmet (rule ∷ rules) =
    if rule.is_met then first_unmet rules else Some (record { rule = rule.number; at = rule.at })

-- an answer is `Err` with the first rule that is not met, and `Ok` where all are met
abbrev pub TellsUnmet : {A : Type 0} → List Rule → Result A Illegal → Type 0
TellsUnmet rules (Ok x) = first_unmet rules ≡ None
TellsUnmet rules (Err illegal) = first_unmet rules ≡ Some illegal

-- the bytes of a range
abbrev pub bytes_at : List ℕ → ℕ → ℕ → List ℕ
bytes_at file offset size = take size (drop offset file)

-- the bytes of a range that lies in the file
abbrev pub part_at : List ℕ → ℕ → ℕ → Option (List ℕ)
part_at file offset size =
    if nat_le (offset + size) (length file) then Some (bytes_at file offset size) else None

abbrev pub lies_in_file : List ℕ → ℕ → ℕ → Bool
lies_in_file file offset size = is_some (part_at file offset size)

-- rule 1: the file has at least 52 bytes
abbrev pub is_long : List ℕ → Bool
is_long file = nat_le 52 (length file)

-- rule 2: its bytes 0 to 5 are 7F 45 4C 46 01 01, those of a little-endian ELF file of 32 bits
abbrev pub is_elf : List ℕ → Bool
is_elf file = starts_with nat_eq file (0x7F ∷ 0x45 ∷ 0x4C ∷ 0x46 ∷ 1 ∷ 1 ∷ [])

-- rule 3: e_type is 0xFF80, an IRX file
abbrev pub is_module : FileHeader → Bool
is_module header = header.kind == 0xFF80

-- rule 4: e_machine is 8, MIPS
abbrev pub is_for_mips : FileHeader → Bool
is_for_mips header = header.machine == 8

-- rule 5: e_phentsize is 32, and e_phnum headers from e_phoff lie in the file
abbrev pub has_segments : List ℕ → FileHeader → Bool
has_segments file header =
    header.segment_size == 32 && nat_le (header.segments + 32 * header.segment_count) (length file)

-- rules 1 to 5, of the file header
unfoldable pub header_rules : List ℕ → List Rule
header_rules file =
    let header = file_header file in
    rule 1 (is_long file) 0
    ∷ rule 2 (is_elf file) 0
    ∷ rule 3 (is_module header) 16
    ∷ rule 4 (is_for_mips header) 18
    ∷ rule 5 (has_segments file header) 42
    ∷ []

-- rules 6 and 7: a program header of a type exists
abbrev pub has_segment : List ℕ → ℕ → Bool
has_segment file kind = is_some (find (is_of_kind kind) (segments file))

-- the first program header of a type, zeros where there is none
abbrev pub first_segment : List ℕ → ℕ → Segment
first_segment file kind = unwrap_or (find (is_of_kind kind) (segments file)) (segment_at [] 0)

-- the header of the module information
abbrev pub info_segment : List ℕ → Segment
info_segment file = first_segment file 0x70000080

-- the header of the image
abbrev pub image_segment : List ℕ → Segment
image_segment file = first_segment file 1

-- the module information in the part of a header
abbrev pub information_at : List ℕ → Segment → Option Information
information_at file segment =
    option_and_then information_in (part_at file segment.offset segment.file_size)

-- the module's information, zeros where there is none
abbrev pub module_information : List ℕ → Information
module_information file =
    unwrap_or (information_at file (info_segment file)) (information_with [] 0)

-- rule 8: the part of the header of rule 6 lies in the file and is module information, of 27 bytes
-- at least and with a zero byte from place 26 on
abbrev pub has_information : List ℕ → Segment → Bool
has_information file segment = is_some (information_at file segment)

-- rule 9: the part of the header of rule 7 lies in the file
abbrev pub has_image : List ℕ → Segment → Bool
has_image file image = lies_in_file file image.offset image.file_size

-- how many bytes the image takes in memory
abbrev pub image_length : Information → Segment → ℕ
image_length info image = max image.memory_size (info.text_size + info.data_size + info.bss_size)

-- rule 10: the text is at least 4 and at most the part of rule 9; the image's length is at least
-- that part and below 2^31
abbrev pub has_sizes : Information → Segment → Bool
has_sizes info image =
    nat_le 4 info.text_size && nat_le info.text_size image.file_size && nat_le image.file_size
    (image_length info image)
    && nat_lt (image_length info image) (2 ^ 31)

-- rules 6 to 10, of the module information and the image
unfoldable pub segment_rules : List ℕ → List Rule
segment_rules file =
    let info = info_segment file in
    let image = image_segment file in
    rule 6 (has_segment file 0x70000080) 44
    ∷ rule 7 (has_segment file 1) 44
    ∷ rule 8 (has_information file info) info.at
    ∷ rule 9 (has_image file image) image.at
    ∷ rule 10 (has_sizes (module_information file) image) image.at
    ∷ []

-- rule 11: where e_shnum is not 0, e_shentsize is 40 and the headers from e_shoff lie in the file
abbrev pub has_sections : List ℕ → FileHeader → Bool
has_sections file header =
    header.section_count == 0
    || (header.section_size == 40 && nat_le (header.sections + 40 * header.section_count)
    (length file))

-- rule 12: a section of relocation entries lies in the file, its sh_size is a multiple of 8, and
-- its sh_info is below e_shnum
abbrev pub has_entries : List ℕ → Section → Bool
has_entries file section =
    lies_in_file file section.offset section.size && section.size % 8 == 0
    && nat_lt section.target (file_header file).section_count

abbrev pub entries_rule : List ℕ → Section → Rule
entries_rule file section = rule 12 (has_entries file section) section.at

-- rule 11, and rule 12 for each section of relocation entries in order
unfoldable pub section_rules : List ℕ → List Rule
section_rules file =
    rule 11 (has_sections file (file_header file)) 46
    ∷ map (entries_rule file) (relocation_sections file)

abbrev pub rules : List ℕ → List Rule
rules file = header_rules file ++ segment_rules file ++ section_rules file

-- the first rule that a file does not meet
abbrev pub unmet_rule : List ℕ → Option Illegal
unmet_rule file = first_unmet (rules file)

-- what is given where no rule is unmet
abbrev pub ok_unless : {A : Type 0} → Option Illegal → A → Result A Illegal
ok_unless None x = Ok x
ok_unless (Some illegal) x = Err illegal
