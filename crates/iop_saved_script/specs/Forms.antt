-- How events, words for modules, and the modules that are left are spelled: this project's own
-- profile.
use Rattle.std.specs.Prelude.{ℕ, Bool, Option, Some, option_map, List, [], ◌∷◌, length, slice_index}
use Rattle.std.specs.Str.{is_utf8}
use Rattle.iop_base.specs.Numbers.{one_if}
use Rattle.iop_script.specs.Scripts.{Args, Named}
use Rattle.iop_script.specs.declared.raise.Raise.{Raise}
use Rattle.iop_snapshot.specs.Flags.{flag_of}
use Rattle.iop_snapshot.specs.Forms.{Form, item, bytes, both, seen_as, tested, series}
use Rattle.iop_snapshot.specs.declared.widths.TheConstants.{ARGUMENTS_MODULE, COUNT, SCRIPT_EVENT}
use Rattle.iop_saved_script.specs.Files.{NamedFile}

-- a list of values of one form
abbrev pub list_of : {X : Type 0} → Form X → Form (List X)
list_of form = series form (λ _. form)

abbrev pub event_numbers : Raise → List ℕ
event_numbers e = e.at ∷ e.line ∷ one_if e.up ∷ []

abbrev pub event_with : (numbers : List ℕ) → (up : Bool) → Raise
event_with numbers up =
    record { at = slice_index numbers 0; line = slice_index numbers 1; up = up }

abbrev pub event_of : List ℕ → Option Raise
event_of numbers = option_map (event_with numbers) (flag_of (slice_index numbers 2))

unfoldable pub event_form : Form Raise
event_form = seen_as (item SCRIPT_EVENT) event_of event_numbers

-- a list of bytes: how many, and the bytes
abbrev pub counted : List ℕ → List ℕ × List ℕ
counted xs = (length xs ∷ [], xs)

abbrev pub counted_form : Form (List ℕ × List ℕ)
counted_form = both (item COUNT) (λ count. bytes (slice_index count 0))

unfoldable pub bytes_form : Form (List ℕ)
bytes_form = seen_as counted_form (λ parts. Some parts.1) counted

-- a list of bytes that are a text
abbrev pub text_form : Form (List ℕ)
text_form = tested bytes_form is_utf8

unfoldable pub words_form : Form (List (List ℕ))
words_form = list_of bytes_form

-- the words for a module: its number, and the words
abbrev pub args_parts : Args → List ℕ × List (List ℕ)
args_parts args = (args.number ∷ [], args.words)

abbrev pub args_of : List ℕ × List (List ℕ) → Option Args
args_of parts = Some (record { number = slice_index parts.0 0; words = parts.1 })

unfoldable pub args_form : Form Args
args_form = seen_as (both (item ARGUMENTS_MODULE) (λ _. words_form)) args_of args_parts

-- the words for a name: the name, and the words
abbrev pub named_parts : Named → List ℕ × List (List ℕ)
named_parts named = (named.name, named.words)

abbrev pub named_of : List ℕ × List (List ℕ) → Option Named
named_of parts = Some (record { name = parts.0; words = parts.1 })

unfoldable pub named_form : Form Named
named_form = seen_as (both bytes_form (λ _. words_form)) named_of named_parts

-- a module: its name, which is a text, and its file
abbrev pub file_parts : NamedFile → List ℕ × List ℕ
file_parts file = (file.name, file.file)

abbrev pub file_of : List ℕ × List ℕ → Option NamedFile
file_of parts = Some (record { name = parts.0; file = parts.1 })

unfoldable pub file_form : Form NamedFile
file_form = seen_as (both text_form (λ _. bytes_form)) file_of file_parts
