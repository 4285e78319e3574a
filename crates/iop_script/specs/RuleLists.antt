-- The rules of a line as one list, in the order in which the line is held against them: this
-- project's own profile.
use Rattle.std.specs.Prelude.{◌≡◌, ℕ, ◌==◌, nat_le, Bool, false, not, ◌&&◌, if◌then◌else◌, is_some, Option, Some, None, codes, List, [], ◌∷◌, length, drop, get_or}
use Rattle.std.specs.List.{list_all, list_any}
use Rattle.std.specs.Result.{result_err}
use Rattle.std.specs.Str.{bytes_eq}
use Rattle.iop_script.specs.Reading.{last_tick, is_short, after_line}
use Rattle.iop_script.specs.Scripts.{Script}
use Rattle.iop_script.specs.Statements.{is_remark, is_word, raises}
use Rattle.iop_script.specs.Texts.{space, parts, value_of, number_of}
use Rattle.iop_script.specs.Versions.{allows_more}
use Rattle.iop_script.specs.declared.rule.Rule.{Rule}
use Rattle.iop_script.specs.declared.rule.Rule.TheVariants as rule
use Rattle.iop_script.specs.declared.statements.TheConstants.{LAST_TICK, LAST_LINE, MOST_MODULES, MOST_WORDS}
use Rattle.iop_script.specs.declared.version.Version.{Version}

-- a rule, and whether a line meets it
pub record Demand : Type 0 where
  pub rule : Rule
  pub is_met : Bool

abbrev pub must : Rule → Bool → Demand
must rule is_met = record { rule = rule; is_met = is_met }

-- the first rule that is not met
abbrev pub first_broken : List Demand → Option Rule
first_broken [] = None
first_broken (demand ∷ rest) = if demand.is_met then first_broken rest else Some demand.rule

-- the field of a place behind the keyword, empty where there is none
abbrev pub field : List (List ℕ) → ℕ → List ℕ
field fields place = get_or fields place []

abbrev pub is_number : (least most : ℕ) → List ℕ → Bool
is_number least most digits = is_some (number_of least most digits)

-- the rules of the three fields behind `at`
abbrev pub change_rules : Version → Script → List (List ℕ) → List Demand
change_rules version script fields =
    must rule.Tick (is_number 0 LAST_TICK (field fields 0))
    ∷ must rule.Change (is_some (raises version (field fields 1)))
    ∷ must rule.InterruptLine (is_number 0 LAST_LINE (field fields 2))
    ∷ must rule.TickOrder (nat_le (last_tick script.events) (value_of (field fields 0)))
    ∷ []

abbrev pub event_rules : Version → Script → List (List ℕ) → List Demand
event_rules version script fields =
    must rule.FieldCount (length fields == 3) ∷ change_rules version script fields

-- the rules of words, and the one that their module or their name has none before
abbrev pub word_rules : List (List ℕ) → Demand → List Demand
word_rules words once =
    must rule.WordCount (nat_le (length words) MOST_WORDS)
    ∷ must rule.WordBytes (list_all is_word words) ∷ once ∷ []

abbrev pub module_once : Script → List ℕ → Demand
module_once script number =
    must rule.ModuleOnce (not (list_any (λ a. a.number == value_of number) script.args))

abbrev pub name_once : Script → List ℕ → Demand
name_once script name =
    must rule.NameOnce (not (list_any (λ n. bytes_eq n.name name) script.named))

-- the rules of the fields behind `args`
abbrev pub module_rules : Script → List (List ℕ) → List Demand
module_rules script fields =
    must rule.Module (is_number 1 MOST_MODULES (field fields 0))
    ∷ word_rules (drop 1 fields) (module_once script (field fields 0))

-- the rules of the fields behind `for`
abbrev pub name_rules : Script → List (List ℕ) → List Demand
name_rules script fields =
    must rule.Name (is_word (field fields 0))
    ∷ word_rules (drop 1 fields) (name_once script (field fields 0))

-- the rules of a line of these fields
abbrev pub rules_behind : Version → Script → List ℕ → List (List ℕ) → List Demand
rules_behind version script line [] = must rule.Keyword false ∷ []
rules_behind version script line (keyword ∷ fields) =
    if bytes_eq keyword (codes "at") then event_rules version script fields
    else if bytes_eq keyword (codes "args") then
    must rule.LineLength (is_short line) ∷ module_rules script fields
    else if bytes_eq keyword (codes "for") && allows_more version
    then must rule.LineLength (is_short line) ∷ name_rules script fields
    else must rule.Keyword false ∷ []

-- the rules of a line behind the first
abbrev pub line_rules : Version → Script → List ℕ → List Demand
line_rules version script line =
    if is_remark line then [] else rules_behind version script line (parts space line)

abbrev pub FirstBrokenRulesAreTold : Type 0
FirstBrokenRulesAreTold = (version : Version) (script : Script) (line : List ℕ)
    → result_err (after_line version script line) ≡ first_broken (line_rules version script line)
