-- What the lines of source make, one after another, before labels have addresses. The language is
-- this project's own profile; the words of tables are those of ps2sdk's irx.h.
use Rattle.std.specs.Prelude.{ℕ, ◌+◌, ◌-◌, Bool, true, false, not, if◌then◌else◌, Option, Some, None, is_some, option_map, option_to_list, Result, Ok, Err, List, [], ◌∷◌, ◌++◌, length, map, take, drop, min, ◌^◌, find}
use Rattle.std.specs.List.{list_any, position_or_len}
use Rattle.std.specs.Str.{bytes_eq}
use Rattle.iop_base.specs.declared.words.TheConstants.{IMPORT_MAGIC, EXPORT_MAGIC, JUMP_BACK, STUB_INDEX}
use Rattle.iop_asm.specs.declared.directive.Directive.TheVariants as directive
use Rattle.iop_asm.specs.declared.fault.AsmKind.{AsmKind}
use Rattle.iop_asm.specs.declared.fault.AsmKind.TheVariants as kind
use Rattle.iop_asm.specs.declared.place.Place.{Place}
use Rattle.iop_asm.specs.declared.section.Section.{Section}
use Rattle.iop_asm.specs.declared.section.Section.TheVariants.{Text, Data}
use Rattle.iop_asm.specs.declared.section.OpenTable.{OpenTable}
use Rattle.iop_asm.specs.declared.section.OpenTable.TheVariants.{Import, Export}
use Rattle.iop_asm.specs.declared.quoting.Quoting.TheVariants.{Outside}
use Rattle.iop_asm.specs.Texts.{is_blank, is_empty, after_blanks, before_comment, words}
use Rattle.iop_asm.specs.declared.fault.Fault.{Fault}
use Rattle.iop_asm.specs.Cells.{Cell, plain_cell}
use Rattle.iop_asm.specs.Statements.{Keyword, LabelOf, Directed, Mnemonic, Nop, keyword_of, label_among, Statement, Labels, Names, Versions, Enters, Reserves, BeginsText, BeginsData, BeginsImport, BeginsExport, Stubs, EndsImport, EndsExport, Fills, statement_of, byte_cells}

-- the greatest number of a line: those behind it have it too
abbrev pub last_number : ℕ
last_number = 2 ^ 32 - 1

pub record Draft : Type 0 where
  -- the number of the last line that was read
  pub line : ℕ
  -- the fields that were given
  pub name : Option (List ℕ)
  pub version : Option ℕ
  -- a label, and the line that names it
  pub entry : Option (List ℕ × ℕ)
  pub bss : Option ℕ
  -- where the next statement stands, and the table that is open there
  pub section : Section
  pub table : Option OpenTable
  -- the words of both sections
  pub text : List Cell
  pub «data» : List Cell
  -- the labels and their places
  pub labels : List (List ℕ × Place)
  -- the faults of lines that show in the lines themselves
  pub faults : List Fault
  -- the labels that bad lines name as their own
  pub missed : List (List ℕ)

abbrev pub empty_draft : Draft
empty_draft = record {
  line = 0;
  name = None;
  version = None;
  entry = None;
  bss = None;
  section = Text;
  table = None;
  text = [];
  «data» = [];
  labels = [];
  faults = [];
  missed = [];
}

-- the place of the next word
abbrev pub next_place : Draft → Place
next_place d = record {
  section = d.section;
  words = elim d.section [ Text ↦ length d.text | Data ↦ length d.«data» ];
}

abbrev pub is_text : Section → Bool
is_text Text = true
is_text Data = false

-- where no table is open: tables begin, and instructions stand, in text; strings stand in data
abbrev pub stands_in : Section → Keyword → Bool
stands_in section (LabelOf name) = true
stands_in section (Directed directive.Import) = is_text section
stands_in section (Directed directive.Export) = is_text section
stands_in section (Directed directive.Function) = false
stands_in section (Directed directive.EndImport) = false
stands_in section (Directed directive.EndExport) = false
stands_in section (Directed directive.String) = not (is_text section)
stands_in section (Directed d) = true
stands_in section (Mnemonic mnemonic) = is_text section
stands_in section Nop = is_text section

-- in an import table only stubs may stand, and its end
abbrev pub stands_in_import : Keyword → Bool
stands_in_import (Directed directive.Function) = true
stands_in_import (Directed directive.EndImport) = true
stands_in_import keyword = false

-- in an export table only words may stand, and its end
abbrev pub stands_in_export : Keyword → Bool
stands_in_export (Directed directive.Word) = true
stands_in_export (Directed directive.EndExport) = true
stands_in_export keyword = false

abbrev pub stands_by : Option OpenTable → Section → Keyword → Bool
stands_by None section keyword = stands_in section keyword
stands_by (Some Import) section keyword = stands_in_import keyword
stands_by (Some Export) section keyword = stands_in_export keyword

-- whether a line that begins so may be the next one
abbrev pub may_stand : Draft → Keyword → Bool
may_stand d keyword = stands_by d.table d.section keyword

-- the place of the label of a name
abbrev pub place_named : List (List ℕ × Place) → List ℕ → Option Place
place_named labels name =
    option_map (λ label. label.1) (find (λ label. bytes_eq label.0 name) labels)

-- whether a bad line names this as its label
abbrev pub is_missed : Draft → List ℕ → Bool
is_missed d name = list_any (bytes_eq name) d.missed

abbrev pub is_label : List (List ℕ × Place) → List ℕ → Bool
is_label labels name = is_some (place_named labels name)

-- whether what a statement gives was given before
abbrev pub is_given : Draft → Statement → Bool
is_given d (Labels name) = is_label d.labels name
is_given d (Stubs label index) = is_label d.labels label
is_given d (Names name) = is_some d.name
is_given d (Versions version) = is_some d.version
is_given d (Enters label) = is_some d.entry
is_given d (Reserves bytes) = is_some d.bss
is_given d statement = false

-- the draft with more words in a section
abbrev pub filled : Draft → Section → List Cell → Draft
filled d Text cells = record d { text = d.text ++ cells }
filled d Data cells = record d { «data» = d.«data» ++ cells }

abbrev pub with_label : Draft → List ℕ → Draft
with_label d name = record d { labels = d.labels ++ (name, next_place d) ∷ [] }

-- the words of a table's header: its first word, a word 0, its version with mode 0, and its name
-- of 8 bytes
abbrev pub header_cells : ℕ → List ℕ → ℕ → List Cell
header_cells first name version =
    map plain_cell (first ∷ 0 ∷ version ∷ []) ++ byte_cells name

-- the first word of a table
abbrev pub magic : OpenTable → ℕ
magic Import = IMPORT_MAGIC
magic Export = EXPORT_MAGIC

abbrev pub begun : Draft → OpenTable → List ℕ → ℕ → Draft
begun d table name version =
    record (filled d Text (header_cells (magic table) name version)) { table = Some table }

-- the words that end a table
abbrev pub end_cells : OpenTable → List Cell
end_cells Import = map plain_cell (0 ∷ 0 ∷ [])
end_cells Export = plain_cell 0 ∷ []

abbrev pub ended : Draft → OpenTable → Draft
ended d table = record (filled d Text (end_cells table)) { table = None }

abbrev pub stub_cells : ℕ → List Cell
stub_cells index = map plain_cell (JUMP_BACK ∷ (STUB_INDEX + index) ∷ [])

-- the draft after a statement of the line that is read
unfoldable pub after_statement : Draft → Statement → Draft
after_statement d (Labels name) = with_label d name
after_statement d (Names name) = record d { name = Some name }
after_statement d (Versions version) = record d { version = Some version }
after_statement d (Enters label) = record d { entry = Some (label, d.line) }
after_statement d (Reserves bytes) = record d { bss = Some bytes }
after_statement d BeginsText = record d { section = Text }
after_statement d BeginsData = record d { section = Data }
after_statement d (BeginsImport name version) = begun d Import name version
after_statement d (BeginsExport name version) = begun d Export name version
after_statement d (Stubs label index) = filled (with_label d label) Text (stub_cells index)
after_statement d EndsImport = ended d Import
after_statement d EndsExport = ended d Export
after_statement d (Fills cells) = filled d d.section cells

abbrev pub unless_given : Draft → Statement → Result (Option Statement) AsmKind
unless_given d statement = if is_given d statement then Err kind.Twice else Ok (Some statement)

abbrev pub unless_given_by : Draft → Result Statement AsmKind → Result (Option Statement) AsmKind
unless_given_by d (Ok statement) = unless_given d statement
unless_given_by d (Err fault) = Err fault

-- a line that begins with a keyword, and the text behind it
abbrev pub keyword_line : Draft → Option Keyword → List ℕ → Result (Option Statement) AsmKind
keyword_line d None text = Err kind.Statement
keyword_line d (Some keyword) text =
    if may_stand d keyword then unless_given_by d (statement_of d.line keyword text)
    else Err kind.Section

-- the statement of a line from its first word on, none of an empty text; or the first kind of fault
-- that shows in the line itself
unfoldable pub read_text : Draft → List ℕ → Result (Option Statement) AsmKind
read_text d text =
    let word = position_or_len is_blank text in
    if is_empty text then Ok None
    else keyword_line d (keyword_of (take word text)) (drop word text)

-- the draft with a fault of the line that is read, and the label that the line names as its own
abbrev pub with_fault : Draft → AsmKind → Option (List ℕ) → Draft
with_fault d why label = record d {
  faults = d.faults ++ record { line = d.line; kind = why } ∷ [];
  missed = d.missed ++ option_to_list label;
}

-- the draft after what was read of a line's text: a bad line leaves only its fault and its label
abbrev pub after_reading : Draft → List ℕ → Result (Option Statement) AsmKind → Draft
after_reading d text (Ok (Some statement)) = after_statement d statement
after_reading d text (Ok None) = d
after_reading d text (Err why) = with_fault d why (label_among (words text))

-- the draft at its next line
abbrev pub at_next_line : Draft → Draft
at_next_line d = record d { line = min last_number (d.line + 1) }

-- the draft after its next line
unfoldable pub after_line : Draft → List ℕ → Draft
after_line d bytes =
    let next = at_next_line d in
    let text = after_blanks (before_comment Outside bytes) in
    after_reading next text (read_text next text)
