-- The parts of a command as `clap` hands them out.
use Rattle.std.specs.Prelude.{◌≡◌, ℕ, Option, Some, None, option_map, unwrap_or, Result, Ok, Err, true, codes, List, [], ◌∷◌}
use Rattle.clap.specs.Walk.{Rule}
use Rattle.clap.specs.Simple.{App, new_app, new_rule, with_rule, on_top}
use Rattle.clap.specs.Matches.{first_value, found_of, matched_of, raw_values}
use Rattle.clap.specs.declared.builder.action.ArgAction.TheVariants.{Set, Append}
use Rattle.clap.specs.declared.parser.matches.ArgMatches.{ArgMatches}
use Rattle.iop_options.specs.Parts.{Part, value_of, files_of}
use Rattle.iop_options.specs.Commands.{Command, command_from}
use Rattle.iop_options.specs.declared.fault.WordFault.{WordFault}
use Rattle.iop_options.specs.declared.fault.WordFault.TheVariants.{Bad, Memory}

-- an option of one value
abbrev pub option_rule : List ℕ → Rule
option_rule name = record (new_rule name) { long = Some name; action = Some Set }

-- the modules
abbrev pub file_rule : Rule
file_rule = record (new_rule (codes "module")) { action = Some Append }

-- what `clap` reads of the command
abbrev pub bare_app : App
bare_app = on_top (λ shape. record shape { no_binary_name = true; disable_help_flag = true })
    (new_app (codes "iop"))

unfoldable pub iop_app : App
iop_app = with_rule (with_rule (with_rule (with_rule (with_rule (with_rule (with_rule (with_rule
    bare_app (option_rule (codes "budget"))) (option_rule (codes "script")))
    (option_rule (codes "dump"))) (option_rule (codes "ram")))
    (option_rule (codes "generate"))) (option_rule (codes "save")))
    (option_rule (codes "restore"))) file_rule

-- the list, unless it is empty
abbrev pub unless_empty : List (List ℕ) → Option (List (List ℕ))
unless_empty [] = None
unless_empty (text ∷ texts) = Some (text ∷ texts)

pub record HoldsParts (matches : ArgMatches) (parts : List Part) : Type 0 where
  pub budget : first_value (found_of matches) (codes "budget") ≡ value_of (codes "budget") parts
  pub script : first_value (found_of matches) (codes "script") ≡ value_of (codes "script") parts
  pub dump : first_value (found_of matches) (codes "dump") ≡ value_of (codes "dump") parts
  pub ram : first_value (found_of matches) (codes "ram") ≡ value_of (codes "ram") parts
  pub generate : first_value (found_of matches) (codes "generate")
      ≡ value_of (codes "generate") parts
  pub save : first_value (found_of matches) (codes "save") ≡ value_of (codes "save") parts
  pub restore : first_value (found_of matches) (codes "restore") ≡ value_of (codes "restore") parts
  pub files : option_map raw_values (matched_of (found_of matches) (codes "module"))
      ≡ unless_empty (files_of parts)

-- the files of modules that the matches have
abbrev pub files_matched : ArgMatches → List (List ℕ)
files_matched matches =
    unwrap_or (option_map raw_values (matched_of (found_of matches) (codes "module"))) []

-- the command that the matches are, if they are one
abbrev pub command_matched : ArgMatches → Option Command
command_matched matches =
    let found = found_of matches in
    command_from (first_value found (codes "budget")) (first_value found (codes "script"))
    (first_value found (codes "dump")) (first_value found (codes "ram"))
    (first_value found (codes "generate")) (first_value found (codes "save"))
    (first_value found (codes "restore")) (files_matched matches)

-- the matches are those of the parts, unless host memory runs out
abbrev pub FindsParts : Result ArgMatches WordFault → Option (List Part) → Type 0
FindsParts (Ok matches) wanted = (parts : List Part) × (wanted ≡ Some parts)
    × HoldsParts matches parts
FindsParts (Err Bad) wanted = wanted ≡ None
FindsParts (Err Memory) wanted = Unit {0}
