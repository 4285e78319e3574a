-- What a line of a script says by itself, or the first rule that it breaks: this project's own
-- profile.
use Rattle.std.specs.Prelude.{ℕ, ◌==◌, nat_le, Bool, true, false, not, ◌&&◌, if◌then◌else◌, Option, Some, None, ok_or, codes, Result, Ok, Err, List, [], ◌∷◌, length}
use Rattle.std.specs.List.{list_all}
use Rattle.std.specs.Str.{bytes_eq}
use Rattle.iop_script.specs.Rules.{unless_broken, demand}
use Rattle.iop_script.specs.Scripts.{Args, Named}
use Rattle.iop_script.specs.Texts.{number_of}
use Rattle.iop_script.specs.Versions.{allows_more}
use Rattle.iop_script.specs.declared.raise.Raise.{Raise}
use Rattle.iop_script.specs.declared.rule.Rule.{Rule}
use Rattle.iop_script.specs.declared.rule.Rule.TheVariants as rule
use Rattle.iop_script.specs.declared.version.Version.{Version}
use Rattle.iop_script.specs.declared.statements.TheConstants.{LAST_TICK, LAST_LINE, MOST_MODULES, MOST_WORDS}

-- a line that says nothing: an empty one, or one that begins with `#`
abbrev pub is_remark : List ℕ → Bool
is_remark [] = true
is_remark (first ∷ rest) = first == 0x23

-- the number of a field, if it is one from least to most
abbrev pub number_in : Rule → (least most : ℕ) → List ℕ → Result ℕ Rule
number_in rule least most field = ok_or (number_of least most field) rule

-- `line` raises a line, and `release` lowers it in version 2
abbrev pub raises : Version → List ℕ → Option Bool
raises version word =
    if bytes_eq word (codes "line") then Some true
    else if bytes_eq word (codes "release") && allows_more version then Some false else None

-- `at T line N` or `at T release N`: the fields behind `at`
unfoldable pub event_of : Version → List (List ℕ) → Result Raise Rule
event_of version (tick ∷ change ∷ line ∷ []) =
    unless_broken (number_in rule.Tick 0 LAST_TICK tick)
    (λ at. unless_broken (ok_or (raises version change) rule.Change)
    (λ up. unless_broken (number_in rule.InterruptLine 0 LAST_LINE line)
    (λ n. Ok (record { at = at; line = n; up = up }))))
event_of version fields = Err rule.FieldCount

-- bytes from 0x21 to 0x7E, one at least
abbrev pub is_word : List ℕ → Bool
is_word word = not (length word == 0) && list_all (λ b. nat_le 0x21 b && nat_le b 0x7E) word

-- these fields, if they are words that a module can be handed
unfoldable pub words_of : List (List ℕ) → Result (List (List ℕ)) Rule
words_of fields =
    demand rule.WordCount (nat_le (length fields) MOST_WORDS)
    (demand rule.WordBytes (list_all is_word fields) (Ok fields))

-- `args K W W ..`: the fields behind `args`
unfoldable pub args_of : List (List ℕ) → Result Args Rule
args_of [] = Err rule.Module
args_of (number ∷ fields) =
    unless_broken (number_in rule.Module 1 MOST_MODULES number)
    (λ n. unless_broken (words_of fields) (λ words. Ok (record { number = n; words = words })))

-- `for NAME W W ..`: the fields behind `for`
unfoldable pub named_of : List (List ℕ) → Result Named Rule
named_of [] = Err rule.Name
named_of (name ∷ fields) =
    demand rule.Name (is_word name)
    (unless_broken (words_of fields) (λ words. Ok (record { name = name; words = words })))
