-- The files that a command names: this project's own profile.
use Rattle.std.specs.Prelude.{ℕ, Option, Some, None, option_to_list, List, [], ◌∷◌, ◌++◌}
use Rattle.iop_modload.specs.declared.limits.TheConstants.{LONGEST_FILE}
use Rattle.iop_options.specs.Commands.{Command}
use Rattle.iop_front.specs.declared.snapshots.TheConstants.{LONGEST_SNAPSHOT}

-- what a file is read as
pub data FileKind : Type 0 where
  AsScript : FileKind
  AsModule : FileKind
  AsSnapshot : FileKind

-- how many bytes a file may have
abbrev pub longest : FileKind → ℕ
longest AsScript = LONGEST_FILE
longest AsModule = LONGEST_FILE
longest AsSnapshot = LONGEST_SNAPSHOT

-- the files of a run that begins: its script's, if it names one, and its modules'
abbrev pub inputs_of : Command → List (List ℕ)
inputs_of command = option_to_list command.script ++ command.modules

-- what the first of them is read as: a script, if one is named; all others are read as modules
abbrev pub kind_by : (script : Option (List ℕ)) → FileKind
kind_by None = AsModule
kind_by (Some name) = AsScript

-- the snapshot alone, where a run goes on from one
abbrev pub files_by : (restore : Option (List ℕ)) → (inputs : List (List ℕ)) → List (List ℕ)
files_by None inputs = inputs
files_by (Some name) inputs = name ∷ []

abbrev pub first_by : (restore : Option (List ℕ)) → (first : FileKind) → FileKind
first_by None first = first
first_by (Some name) first = AsSnapshot

-- the files that a command reads, in order
abbrev pub files_of : Command → List (List ℕ)
files_of command = files_by command.restore (inputs_of command)

-- what the first of them is read as
abbrev pub first_kind : Command → FileKind
first_kind command = first_by command.restore (kind_by command.script)
