-- The text that a script is written as, and the first lines of a text: this project's own profile.
use Rattle.std.specs.Prelude.{ℕ, if◌then◌else◌, codes, decimal, List, [], ◌∷◌, ◌++◌, map, take}
use Rattle.std.specs.List.{join_with_byte}
use Rattle.iop_script.specs.Scripts.{Args, Named, Script}
use Rattle.iop_script.specs.Texts.{line_feed, space, parts}
use Rattle.iop_script.specs.Versions.{first_line}
use Rattle.iop_script.specs.declared.raise.Raise.{Raise}
use Rattle.iop_script.specs.declared.version.Version.{Version}

-- the text of some lines
abbrev pub text_of : List (List ℕ) → List ℕ
text_of lines = join_with_byte line_feed lines

-- so many lines of a text, from the first on
abbrev pub first_lines : ℕ → List ℕ → List ℕ
first_lines count text = text_of (take count (parts line_feed text))

-- fields with a space between each two
abbrev pub line_of : List (List ℕ) → List ℕ
line_of fields = join_with_byte space fields

-- the word for a line that is raised or lowered
abbrev pub change_word : Raise → List ℕ
change_word e = if e.up then codes "line" else codes "release"

abbrev pub event_line : Raise → List ℕ
event_line e = line_of (codes "at" ∷ decimal e.at ∷ change_word e ∷ decimal e.line ∷ [])

abbrev pub args_line : Args → List ℕ
args_line a = line_of (codes "args" ∷ decimal a.number ∷ a.words)

abbrev pub named_line : Named → List ℕ
named_line n = line_of (codes "for" ∷ n.name ∷ n.words)

-- a line for the words of each module, and of each name
abbrev pub word_lines : Script → List (List ℕ)
word_lines script = map args_line script.args ++ map named_line script.named

-- behind the version, a line for each event, and the lines of words
unfoldable pub written : Version → Script → List ℕ
written version script =
    text_of (first_line version ∷ map event_line script.events ++ word_lines script)
