-- The unit that source text makes: labels get their addresses, and words that name them are put
-- together (System V ABI, MIPS supplement: what the types of relocation entries change; MIPS I:
-- branches and jumps). Which line is the first bad one, and why, is this project's own profile.
use Rattle.std.specs.Prelude.{ℕ, ◌+◌, ◌-◌, ◌*◌, ◌/◌, ◌%◌, ◌^◌, nat_le, nat_lt, ◌==◌, Bool, ◌&&◌, ◌||◌, if◌then◌else◌, Option, Some, None, option_map, option_and_then, unwrap_or, is_some, Result, Ok, Err, List, [], ◌++◌, length, fold, filter_map, option_to_list}
use Rattle.std.specs.List.{flat_map, enumerate_from}
use Rattle.std.specs.Str.Lines.{lines}
use Rattle.iop_base.specs.Numbers.{wrapped, high_half, bytes_of}
use Rattle.iop_base.specs.declared.relocation_types.TheConstants.{R_MIPS_32, R_MIPS_26, R_MIPS_HI16, R_MIPS_LO16}
use Rattle.iop_asm.specs.declared.fault.Fault.{Fault}
use Rattle.iop_asm.specs.declared.fault.AsmKind.{AsmKind}
use Rattle.iop_asm.specs.declared.fault.AsmKind.TheVariants as kind
use Rattle.iop_asm.specs.declared.reference.ReferenceKind.{ReferenceKind}
use Rattle.iop_asm.specs.declared.reference.ReferenceKind.TheVariants.{Address, Jump, High, Low, Branch}
use Rattle.iop_asm.specs.declared.place.Place.{Place}
use Rattle.iop_asm.specs.declared.relocation.Relocation.{Relocation}
use Rattle.iop_asm.specs.declared.resolving.TheConstants.{DEFAULT_VERSION}
use Rattle.iop_asm.specs.declared.section.OpenTable.{OpenTable}
use Rattle.iop_asm.specs.declared.section.Section.TheVariants.{Text, Data}
use Rattle.iop_asm.specs.Cells.{Reference, Cell}
use Rattle.iop_asm.specs.Units.{ModuleUnit}
use Rattle.iop_asm.specs.Drafts.{Draft, place_named, is_missed, empty_draft, after_line}

-- the address of the word of this number: addresses count modulo 2^32
abbrev pub word_address : ℕ → ℕ
word_address number = wrapped (4 * number)

-- the number of the word at a place: the data follows the text
abbrev pub word_number : (text_words : ℕ) → Place → ℕ
word_number text_words place =
    elim place.section [ Text ↦ place.words | Data ↦ text_words + place.words ]

-- the address of a label
unfoldable pub label_address : Draft → List ℕ → Option ℕ
label_address final name =
    option_map (λ place. word_address (word_number (length final.text) place))
    (place_named final.labels name)

-- a branch counts its way in words from the one behind it: up to 2^15 back and 2^15 - 1 ahead
abbrev pub is_near : ℕ → ℕ → Bool
is_near site address =
    nat_le (site + 4) (address + 4 * 2 ^ 15) && nat_lt address (site + 4 + 4 * 2 ^ 15)

abbrev pub branch_field : ℕ → ℕ → ℕ
branch_field site address = (address + 4 * 2 ^ 16 - (site + 4)) / 4 % 2 ^ 16

-- the target of a jump to an address
abbrev pub jump_field : ℕ → ℕ
jump_field address = address / 4 % 2 ^ 26

abbrev pub low_half : ℕ → ℕ
low_half address = address % 2 ^ 16

-- what an address adds to the word at a site
abbrev pub field_by : ReferenceKind → ℕ → ℕ → ℕ
field_by Address site address = address
field_by Jump site address = jump_field address
field_by High site address = high_half address
field_by Low site address = low_half address
field_by Branch site address = branch_field site address

-- the word of a cell at a site
abbrev pub referred_word : Draft → ℕ → ℕ → Option Reference → ℕ
referred_word final site word None = word
referred_word final site word (Some r) =
    wrapped (word + field_by r.kind site (unwrap_or (label_address final r.label) 0))

abbrev pub cell_word : Draft → ℕ → Cell → ℕ
cell_word final site cell = referred_word final site cell.word cell.reference

-- the type of the relocation entry that a reference makes; a branch makes none
abbrev pub relocation_type : ReferenceKind → Option ℕ
relocation_type Address = Some R_MIPS_32
relocation_type Jump = Some R_MIPS_26
relocation_type High = Some R_MIPS_HI16
relocation_type Low = Some R_MIPS_LO16
relocation_type Branch = None

abbrev pub cell_relocation : ℕ → Cell → Option Relocation
cell_relocation site cell =
    option_map (λ number. record { site = site; kind = number })
    (option_and_then (λ r. relocation_type r.kind) cell.reference)

-- the bytes of some cells behind so many others
abbrev pub cells_bytes : Draft → (behind : ℕ) → List Cell → List ℕ
cells_bytes final behind cells =
    flat_map (λ c. bytes_of 4 (cell_word final (word_address c.0) c.1))
    (enumerate_from behind cells)

-- the relocation entries of some cells behind so many others
abbrev pub cells_relocations : (behind : ℕ) → List Cell → List Relocation
cells_relocations behind cells =
    filter_map (λ c. cell_relocation (word_address c.0) c.1) (enumerate_from behind cells)

-- the address of the entry, 0 where it is not given
abbrev pub entry_address : Draft → ℕ
entry_address final =
    unwrap_or (option_and_then (λ entry. label_address final entry.0) final.entry) 0

abbrev pub unit_of_draft : Draft → ModuleUnit
unit_of_draft final = record {
  name = unwrap_or final.name [];
  version = unwrap_or final.version DEFAULT_VERSION;
  entry = entry_address final;
  gp = 0;
  text = cells_bytes final 0 final.text;
  «data» = cells_bytes final (length final.text) final.«data»;
  bss = unwrap_or final.bss 0;
  relocations =
      cells_relocations 0 final.text ++ cells_relocations (length final.text) final.«data»;
}

-- faults in the order of their lines; those of one line in the order of their kinds
abbrev pub rank : AsmKind → ℕ
rank kind.Statement = 0
rank kind.Section = 1
rank kind.Operand = 2
rank kind.Range = 3
rank kind.Twice = 4
rank kind.Label = 5

abbrev pub comes_before : Fault → Fault → Bool
comes_before a b =
    nat_lt a.line b.line || (a.line == b.line && nat_lt (rank a.kind) (rank b.kind))

abbrev pub first_of : Option Fault → Fault → Option Fault
first_of None b = Some b
first_of (Some a) b = if comes_before b a then Some b else Some a

-- the first of some faults
abbrev pub first_fault : List Fault → Option Fault
first_fault faults = fold first_of None faults

abbrev pub fault_at : ℕ → AsmKind → Option Fault
fault_at line why = Some (record { line = line; kind = why })

abbrev pub distance_fault : ReferenceKind → (line site address : ℕ) → Option Fault
distance_fault Branch line site address =
    if is_near site address then None else fault_at line kind.Range
distance_fault other line site address = None

-- the fault of a line that names a label without an address: none where a bad line would define it,
-- for then that line is the one to be mended
abbrev pub label_fault : Draft → (line : ℕ) → List ℕ → Option Fault
label_fault final line name = if is_missed final name then None else fault_at line kind.Label

-- a label that no line names as its own, or a branch that goes too far
abbrev pub address_fault : Draft → Reference → ℕ → Option ℕ → Option Fault
address_fault final r site None = label_fault final r.line r.label
address_fault final r site (Some address) = distance_fault r.kind r.line site address

abbrev pub cell_fault : Draft → ℕ → Cell → Option Fault
cell_fault final site cell =
    option_and_then (λ r. address_fault final r site (label_address final r.label)) cell.reference

-- the faults of some cells behind so many others
abbrev pub cells_faults : Draft → (behind : ℕ) → List Cell → List Fault
cells_faults final behind cells =
    filter_map (λ c. cell_fault final (word_address c.0) c.1) (enumerate_from behind cells)

-- no line names the entry's label as its own
abbrev pub entry_fault : Draft → List ℕ × ℕ → Option Fault
entry_fault final (label, line) =
    if is_some (label_address final label) then None else label_fault final line label

-- a table is open behind the last line
abbrev pub open_fault : Option OpenTable → ℕ → Option Fault
open_fault None last = None
open_fault (Some table) last = fault_at last kind.Section

-- all faults of a source
abbrev pub all_faults : Draft → List Fault
all_faults final =
    final.faults
    ++ cells_faults final 0 final.text
    ++ cells_faults final (length final.text) final.«data»
    ++ option_to_list (option_and_then (entry_fault final) final.entry)
    ++ option_to_list (open_fault final.table final.line)

abbrev pub unit_unless : Draft → Option Fault → Result ModuleUnit Fault
unit_unless final None = Ok (unit_of_draft final)
unit_unless final (Some fault) = Err fault

-- the unit of a source text, or its first bad line with the first kind that applies to it
unfoldable pub assembled : List ℕ → Result ModuleUnit Fault
assembled source =
    let final = fold after_line empty_draft (lines source) in
    unit_unless final (first_fault (all_faults final))
