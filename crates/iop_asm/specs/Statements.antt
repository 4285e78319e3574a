-- The statements of the source language, one a line. The language is this project's own profile; the
-- fields of tables are those of ps2sdk's irx.h.
use Rattle.std.specs.Prelude.{ℕ, ◌+◌, ◌-◌, ◌*◌, ◌/◌, ◌%◌, ◌^◌, nat_le, Bool, true, ◌&&◌, if◌then◌else◌, Option, Some, None, option_map, option_and_then, Result, Ok, Err, List, [], ◌∷◌, ◌++◌, codes, length, map, replicate}
use Rattle.std.specs.List.{list_all, range_with_len}
use Rattle.std.specs.Option.{option_or}
use Rattle.std.specs.Prelude.{find}
use Rattle.std.specs.Str.{bytes_eq}
use Rattle.iop_base.specs.Numbers.{word_at}
use Rattle.iop_base.specs.Strings.{before_zero}
use Rattle.iop_asm.specs.declared.keywords.TheConstants.{DIRECTIVES}
use Rattle.iop_isa.specs.Writing.{Named, named}
use Rattle.iop_asm.specs.declared.number.Number.{Number}
use Rattle.iop_asm.specs.declared.directive.Directive.{Directive}
use Rattle.iop_asm.specs.declared.directive.Directive.TheVariants as directive
use Rattle.iop_asm.specs.declared.fault.AsmKind.{AsmKind}
use Rattle.iop_asm.specs.declared.fault.AsmKind.TheVariants.{Operand, Range}
use Rattle.iop_asm.specs.declared.reference.ReferenceKind.TheVariants.{Address}
use Rattle.iop_asm.specs.declared.tables.TheConstants.{LIBRARY_NAME_LEN}
use Rattle.iop_asm.specs.Texts.{is_empty, symbol_of, before, after_blanks, words, comma_words, all_of, number_of, string_of}
use Rattle.iop_asm.specs.Operands.{Value, Numeric, Symbol, operands_of, operand_fits, lies_within, complement, reference, instruction_cell}
use Rattle.iop_asm.specs.Cells.{Cell, plain_cell}

-- what a line begins with
pub data Keyword : Type 0 where
  LabelOf : List ℕ → Keyword
  Directed : Directive → Keyword
  Mnemonic : Named → Keyword
  -- the word 0
  Nop : Keyword

unfoldable pub directive_of : List ℕ → Option Directive
directive_of word =
    option_map (λ entry. entry.1) (find (λ entry. bytes_eq (before_zero entry.0) word) DIRECTIVES)

-- the name before the colon that a word ends with
unfoldable pub label_of : List ℕ → Option (List ℕ)
label_of word = option_and_then symbol_of (before (codes ":") word)

-- the label of a directive, by the words behind it
abbrev pub label_behind : Directive → List (List ℕ) → Option (List ℕ)
label_behind directive.Function (word ∷ rest) = symbol_of word
label_behind other words = None

-- the label that a line names as its own, by its words: the line may be bad otherwise
unfoldable pub label_among : List (List ℕ) → Option (List ℕ)
label_among [] = None
label_among (word ∷ rest) =
    option_or (label_of word) (option_and_then (λ d. label_behind d rest) (directive_of word))

unfoldable pub keyword_of : List ℕ → Option Keyword
keyword_of word =
    option_or (option_map LabelOf (label_of word))
    (option_or (option_map Directed (directive_of word))
    (option_or (if bytes_eq word (codes "nop") then Some Nop else None)
    (option_map Mnemonic (named word))))

-- what a line asks for
pub data Statement : Type 0 where
  Labels : (name : List ℕ) → Statement
  Names : (name : List ℕ) → Statement
  Versions : (version : ℕ) → Statement
  Enters : (label : List ℕ) → Statement
  Reserves : (bytes : ℕ) → Statement
  BeginsText : Statement
  BeginsData : Statement
  -- a library's name and version
  BeginsImport : (name : List ℕ) (version : ℕ) → Statement
  BeginsExport : (name : List ℕ) (version : ℕ) → Statement
  -- the stub of a function, and its label
  Stubs : (label : List ℕ) (index : ℕ) → Statement
  EndsImport : Statement
  EndsExport : Statement
  -- words of the section
  Fills : List Cell → Statement

-- operands of another form
abbrev pub formed : Option (Result Statement AsmKind) → Result Statement AsmKind
formed None = Err Operand
formed (Some statement) = statement

-- a statement whose numbers fit, or not
abbrev pub ranged : Bool → Statement → Result Statement AsmKind
ranged fits statement = if fits then Ok statement else Err Range

-- the statement of a line without operands
abbrev pub alone : Statement → List ℕ → Result Statement AsmKind
alone statement text = if is_empty (after_blanks text) then Ok statement else Err Operand

abbrev pub is_byte : Number → Bool
is_byte n = lies_within 0 255 n

-- a major and a minor version
abbrev pub version_with : Number → Number → ℕ
version_with major minor = 256 * major.magnitude + minor.magnitude

abbrev pub with_version : (ℕ → Statement) → List ℕ → List ℕ → Option (Result Statement AsmKind)
with_version statement major minor =
    option_and_then (λ a. option_map (λ b. ranged (is_byte a && is_byte b)
    (statement (version_with a b))) (number_of minor)) (number_of major)

abbrev pub name_statement : List (List ℕ) → Option (Result Statement AsmKind)
name_statement (word ∷ []) = option_map (λ name. Ok (Names name)) (symbol_of word)
name_statement words = None

abbrev pub version_statement : List (List ℕ) → Option (Result Statement AsmKind)
version_statement (major ∷ minor ∷ []) = with_version Versions major minor
version_statement words = None

abbrev pub entry_statement : List (List ℕ) → Option (Result Statement AsmKind)
entry_statement (word ∷ []) = option_map (λ name. Ok (Enters name)) (symbol_of word)
entry_statement words = None

abbrev pub bss_statement : List (List ℕ) → Option (Result Statement AsmKind)
bss_statement (word ∷ []) =
    option_map (λ n. ranged (lies_within 0 (2 ^ 32 - 1) n) (Reserves n.magnitude)) (number_of word)
bss_statement words = None

-- a library's name filled up with zeros to the length of its field
abbrev pub padded_name : List ℕ → List ℕ
padded_name name = name ++ replicate (LIBRARY_NAME_LEN - length name) 0

-- a library's name, which is no longer than its field
abbrev pub library_of : List ℕ → Option (List ℕ)
library_of word =
    if nat_le (length word) LIBRARY_NAME_LEN then option_map padded_name (symbol_of word) else None

abbrev pub table_statement : (List ℕ → ℕ → Statement) → List (List ℕ)
    → Option (Result Statement AsmKind)
table_statement statement (word ∷ major ∷ minor ∷ []) =
    option_and_then (λ name. with_version (statement name) major minor) (library_of word)
table_statement statement words = None

abbrev pub stub_statement : List (List ℕ) → Option (Result Statement AsmKind)
stub_statement (word ∷ index ∷ []) =
    option_and_then (λ label. option_map (λ n. ranged (lies_within 0 (2 ^ 16 - 1) n)
    (Stubs label n.magnitude)) (number_of index)) (symbol_of word)
stub_statement words = None

-- a word's value: a number or a label
abbrev pub word_value : List ℕ → Option Value
word_value word =
    option_or (option_map Numeric (number_of word)) (option_map Symbol (symbol_of word))

abbrev pub is_word : Value → Bool
is_word (Numeric n) = lies_within (2 ^ 31) (2 ^ 32 - 1) n
is_word value = true

-- a word of a line
abbrev pub word_cell : ℕ → Value → Cell
word_cell line (Numeric n) = plain_cell (complement 32 n)
word_cell line (Symbol name) = record { word = 0; reference = reference line Address name }
word_cell line value = plain_cell 0

abbrev pub words_statement : ℕ → List (List ℕ) → Option (Result Statement AsmKind)
words_statement line [] = None
words_statement line words =
    option_map (λ values. ranged (list_all is_word values) (Fills (map (word_cell line) values)))
    (all_of (map word_value words))

-- bytes with a zero byte, and zeros to a multiple of 4
abbrev pub padded_string : List ℕ → List ℕ
padded_string bytes = bytes ++ replicate (4 - length bytes % 4) 0

-- the words of bytes, whose number is a multiple of 4
abbrev pub byte_cells : List ℕ → List Cell
byte_cells bytes =
    map (λ k. plain_cell (word_at bytes (4 * k))) (range_with_len 0 (length bytes / 4))

abbrev pub string_statement : Option (List ℕ) → Option (Result Statement AsmKind)
string_statement string = option_map (λ bytes. Ok (Fills (byte_cells (padded_string bytes)))) string

-- an instruction on a line, with its operands' words
abbrev pub instruction_statement : ℕ → Named → List (List ℕ) → Option (Result Statement AsmKind)
instruction_statement line mnemonic words =
    option_map (λ operands. ranged (list_all operand_fits operands)
    (Fills (instruction_cell line mnemonic.opcode operands ∷ [])))
    (operands_of mnemonic.operands words)

-- the statement of a directive on a line, with the text behind its word
unfoldable pub directed : ℕ → Directive → List ℕ → Result Statement AsmKind
directed line directive.Name text = formed (name_statement (words text))
directed line directive.Version text = formed (version_statement (words text))
directed line directive.Entry text = formed (entry_statement (words text))
directed line directive.Bss text = formed (bss_statement (words text))
directed line directive.Text text = alone BeginsText text
directed line directive.Data text = alone BeginsData text
directed line directive.Import text = formed (table_statement BeginsImport (words text))
directed line directive.Function text = formed (stub_statement (words text))
directed line directive.EndImport text = alone EndsImport text
directed line directive.Export text = formed (table_statement BeginsExport (words text))
directed line directive.EndExport text = alone EndsExport text
directed line directive.Word text =
    formed (option_and_then (words_statement line) (comma_words text))
directed line directive.String text = formed (string_statement (string_of text))

-- the statement of a keyword on a line, with the text behind it
unfoldable pub statement_of : ℕ → Keyword → List ℕ → Result Statement AsmKind
statement_of line (LabelOf name) text = alone (Labels name) text
statement_of line (Directed d) text = directed line d text
statement_of line (Mnemonic mnemonic) text =
    formed (option_and_then (instruction_statement line mnemonic) (comma_words text))
statement_of line Nop text = alone (Fills (plain_cell 0 ∷ [])) text
