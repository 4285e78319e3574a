-- What the lines of a script say together, and which is the first bad one: this project's own
-- profile.
use Rattle.std.specs.Prelude.{ℕ, ◌+◌, ◌-◌, ◌^◌, ◌==◌, min, nat_le, Bool, not, ◌&&◌, if◌then◌else◌, Option, Some, None, option_map, unwrap_or, codes, Result, Ok, Err, List, [], ◌∷◌, ◌++◌, length}
use Rattle.std.specs.List.{list_any, slice_get}
use Rattle.std.specs.Str.{bytes_eq}
use Rattle.iop_script.specs.Rules.{unless_broken, demand}
use Rattle.iop_script.specs.Scripts.{Args, Named, Script}
use Rattle.iop_script.specs.Texts.{line_feed, space, parts}
use Rattle.iop_script.specs.Statements.{is_remark, event_of, args_of, named_of}
use Rattle.iop_script.specs.Versions.{version_of, allows_more}
use Rattle.iop_script.specs.declared.raise.Raise.{Raise}
use Rattle.iop_script.specs.declared.rule.Rule.{Rule}
use Rattle.iop_script.specs.declared.rule.Rule.TheVariants as rule
use Rattle.iop_script.specs.declared.statements.TheConstants.{LONGEST_ARGS}
use Rattle.iop_script.specs.declared.version.Version.{Version}

abbrev pub empty_script : Script
empty_script = record { events = []; args = []; named = [] }

-- the tick of the last event, 0 where there is none
abbrev pub last_tick : List Raise → ℕ
last_tick events = unwrap_or (option_map (λ e. e.at) (slice_get events (length events - 1))) 0

-- an event is not before the last one
abbrev pub with_event : Script → Raise → Result Script Rule
with_event script e =
    demand rule.TickOrder (nat_le (last_tick script.events) e.at)
    (Ok (record script { events = script.events ++ e ∷ [] }))

-- a module is handed words once
abbrev pub with_args : Script → Args → Result Script Rule
with_args script a =
    demand rule.ModuleOnce (not (list_any (λ other. other.number == a.number) script.args))
    (Ok (record script { args = script.args ++ a ∷ [] }))

-- a name stands for words once
abbrev pub with_named : Script → Named → Result Script Rule
with_named script n =
    demand rule.NameOnce (not (list_any (λ other. bytes_eq other.name n.name) script.named))
    (Ok (record script { named = script.named ++ n ∷ [] }))

-- a line with words is not too long
abbrev pub is_short : List ℕ → Bool
is_short line = nat_le (length line) LONGEST_ARGS

-- the script behind a line of these fields, or the first rule that the line breaks
abbrev pub with_fields : Version → Script → List ℕ → List (List ℕ) → Result Script Rule
with_fields version script line [] = Err rule.Keyword
with_fields version script line (keyword ∷ fields) =
    if bytes_eq keyword (codes "at")
    then unless_broken (event_of version fields) (with_event script)
    else if bytes_eq keyword (codes "args") then
    demand rule.LineLength (is_short line) (unless_broken (args_of fields) (with_args script))
    else if bytes_eq keyword (codes "for") && allows_more version then
    demand rule.LineLength (is_short line) (unless_broken (named_of fields) (with_named script))
    else Err rule.Keyword

-- the script behind a line, or the first rule that the line breaks
unfoldable pub after_line : Version → Script → List ℕ → Result Script Rule
after_line version script line =
    if is_remark line then Ok script else with_fields version script line (parts space line)

-- a line that is bad, and the first rule that it breaks
pub record BadLine : Type 0 where
  pub number : ℕ
  pub rule : Rule

abbrev pub bad_line : ℕ → Rule → BadLine
bad_line number rule = record { number = number; rule = rule }

-- the number of the next line: the line 2^32 and those behind it count as 2^32 - 1
abbrev pub next_number : ℕ → ℕ
next_number number = min (number + 1) (2 ^ 32 - 1)

-- what is made of the script behind a line of this number, if the line is good
abbrev pub unless_bad : ℕ → (Script → Result Script BadLine) → Result Script Rule
    → Result Script BadLine
unless_bad number make (Err rule) = Err (bad_line number rule)
unless_bad number make (Ok script) = make script

-- the script behind some lines, the first of this number, or the first bad one
unfoldable pub read_lines : Version → ℕ → Script → List (List ℕ) → Result Script BadLine
read_lines version number script [] = Ok script
read_lines version number script (line ∷ rest) =
    unless_bad number (λ next. read_lines version (next_number number) next rest)
    (after_line version script line)

-- the lines behind the first, which tells the version
abbrev pub read_behind : Option Version → List (List ℕ) → Result Script BadLine
read_behind None rest = Err (bad_line 1 rule.FirstLine)
read_behind (Some version) rest = read_lines version 2 empty_script rest

abbrev pub read_all : List (List ℕ) → Result Script BadLine
read_all [] = Err (bad_line 1 rule.FirstLine)
read_all (first ∷ rest) = read_behind (version_of first) rest

-- the script of a text, or its first bad line. What stands behind the last line feed is a line too:
-- where it is empty, the line says nothing
unfoldable pub script_of : List ℕ → Result Script BadLine
script_of bytes = read_all (parts line_feed bytes)
