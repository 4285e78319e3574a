-- What the laws of scripts say.
use Rattle.std.specs.Prelude.{◌≡◌, ◌≢◌, ◌⊎◌, ◌↔◌, ℕ, ◌+◌, ◌-◌, ◌^◌, ◌<◌, ◌≤◌, min, true, Option, Some, codes, Ok, Err, is_ok, List, [], ◌∷◌, ◌++◌, length, map, take, drop, sum_by, All, AllPairs, Contains}
use Rattle.iop_script.specs.Scripts.{Script}
use Rattle.iop_script.specs.Reading.{BadLine, script_of}
use Rattle.iop_script.specs.Texts.{line_feed, parts}
use Rattle.iop_script.specs.Versions.{version_of}
use Rattle.iop_script.specs.Writing.{first_lines, event_line, args_line, named_line, word_lines, written}
use Rattle.iop_script.specs.declared.statements.TheConstants.{MOST_MODULES, LONGEST_ARGS}
use Rattle.iop_script.specs.declared.version.Version.{Version}
use Rattle.iop_script.specs.declared.version.Version.TheVariants.{One, Two}

-- the bytes of words in the argument block: each has a zero byte behind it
abbrev pub bytes_of_words : List (List ℕ) → ℕ
bytes_of_words words = sum_by (λ word. length word + 1) words

-- words for which the argument block has room
pub record FitBlock (words : List (List ℕ)) : Type 0 where
  pub count : length words ≤ 15
  pub bytes : bytes_of_words words < 2048

-- what a machine asks of a script: the events in the order of their ticks, which can come in a run;
-- lines that there are; and for each module and each name one list of words at most, for which the
-- argument block has room
pub record CanRun (script : Script) : Type 0 where
  pub order : AllPairs (λ x y. x.at ≤ y.at) script.events
  pub ticks : All (λ e. e.at < 2 ^ 63) script.events
  pub lines : All (λ e. e.line < 64) script.events
  pub modules : AllPairs (λ a b. a.number ≢ b.number) script.args
  pub room : All (λ a. FitBlock a.words) script.args
  pub names : AllPairs (λ m n. m.name ≢ n.name) script.named
  pub named_room : All (λ n. FitBlock n.words) script.named

abbrev pub ScriptsCanRun : Type 0
ScriptsCanRun = (bytes : List ℕ) (script : Script) → script_of bytes ≡ Ok script → CanRun script

-- the version that a text tells
abbrev pub text_version : List ℕ → Option Version
text_version text = version_of (first_lines 1 text)

-- version 1 lowers no line, and has no words for a name
abbrev pub IsOfVersion : Version → Script → Type 0
IsOfVersion One script = All (λ e. e.up ≡ true) script.events × (script.named ≡ [])
IsOfVersion Two script = Unit {0}

abbrev pub VersionsBound : Type 0
VersionsBound = (bytes : List ℕ) (script : Script) (version : Version) → script_of bytes ≡ Ok script
    → text_version bytes ≡ Some version → IsOfVersion version script

-- a word: bytes from 0x21 to 0x7E, one at least
pub record IsWord (word : List ℕ) : Type 0 where
  pub some : 1 ≤ length word
  pub bytes : All (λ b. (0x21 ≤ b) × (b ≤ 0x7E)) word

-- words that a line can have, and the line with them, which is not too long
pub record FitLine (words : List (List ℕ)) (line : List ℕ) : Type 0 where
  pub are_words : All IsWord words
  pub short : length line ≤ LONGEST_ARGS

-- what can be said in a text of a version, too: modules that there can be, words, and lines that
-- are not too long
pub record CanBeWritten (version : Version) (script : Script) : Type 0 where
  pub runs : CanRun script
  pub in_version : IsOfVersion version script
  pub numbers : All (λ a. (1 ≤ a.number) × (a.number ≤ MOST_MODULES)) script.args
  pub fit : All (λ a. FitLine a.words (args_line a)) script.args
  pub are_names : All (λ n. IsWord n.name) script.named
  pub named_fit : All (λ n. FitLine n.words (named_line n)) script.named

abbrev pub ScriptsCanBeWritten : Type 0
ScriptsCanBeWritten = (bytes : List ℕ) (script : Script) → script_of bytes ≡ Ok script
    → (version : Version) × (text_version bytes ≡ Some version) × CanBeWritten version script

abbrev pub WrittenScriptsAreRead : Type 0
WrittenScriptsAreRead = (version : Version) (script : Script) → CanBeWritten version script
    → script_of (written version script) ≡ Ok script

-- a line that says nothing is empty, or begins with `#`
abbrev pub SaysNothing : List ℕ → Type 0
SaysNothing line = (line ≡ []) ⊎ (take 1 line ≡ codes "#")

-- it is one of the lines that a script is written with
abbrev pub IsLineOf : Script → List ℕ → Type 0
IsLineOf script line = Contains (map event_line script.events ++ word_lines script) line

-- behind the first line of a script's text there is no other way to say what the script says
abbrev pub GoodLinesAreWritten : Type 0
GoodLinesAreWritten = (text : List ℕ) (script : Script) → script_of text ≡ Ok script
    → All (λ line. SaysNothing line ⊎ IsLineOf script line) (drop 1 (parts line_feed text))

-- the text of the lines before this one is good, if there are any, and with this line it is bad:
-- the same rule is broken
pub record IsFirstBad (text : List ℕ) (line : ℕ) (found : BadLine) : Type 0 where
  pub good : (line ≡ 1) ⊎ (is_ok (script_of (first_lines (line - 1) text)) ≡ true)
  pub bad : script_of (first_lines line text) ≡ Err found

-- the line 2^32 and those behind it are told as 2^32 - 1
abbrev pub FirstBadLinesAreTold : Type 0
FirstBadLinesAreTold = (text : List ℕ) (bad : BadLine)
    → (script_of text ≡ Err bad)
    ↔ ((line : ℕ) × (bad.number ≡ min line (2 ^ 32 - 1)) × IsFirstBad text line bad)

-- what stands behind a bad line changes nothing
abbrev pub BadLinesDecide : Type 0
BadLinesDecide = (text more : List ℕ) (bad : BadLine) → script_of text ≡ Err bad
    → script_of (text ++ line_feed ∷ more) ≡ Err bad
