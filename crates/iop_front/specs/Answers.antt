-- How the command comes to each of its answers.
use Rattle.std.specs.Prelude.{◌≡◌, ◌⊎◌, ℕ, ◌+◌, ◌<◌, ◌≤◌, true, Option, Some, None, is_some, option_to_list, IsSome, IfSome, Err, is_ok, is_err, List, [], ◌∷◌, ◌++◌, All, Contains, length, map, take}
use Rattle.iop_base.specs.Counts.{HasCause}
use Rattle.iop_base.specs.Numbers.{IsByte}
use Rattle.iop_machine.specs.Modules.{NamedFile}
use Rattle.iop_machine.specs.Restoring.{machine_in}
use Rattle.iop_modload.specs.declared.limits.TheConstants.{LONGEST_FILE}
use Rattle.iop_ports.specs.Files.{FilesTold, IsAskedName}
use Rattle.iop_ports.specs.Sinks.{SinkTold}
use Rattle.iop_script.specs.Reading.{BadLine, script_of}
use Rattle.iop_front.specs.declared.status.Status.{Status}
use Rattle.iop_front.specs.declared.status.Status.TheVariants.{BadWords, CannotRead, NoMemory}
use Rattle.iop_front.specs.Outcome.{Meets, MeetsCode, OpensInOrder, Refuses, outcome_of_inputs, outcome_of_snapshot, script_by, first_too_long, bad_words_line}
use Rattle.iop_front.specs.Outcome.{bad_script_line, bad_snapshot_line, cannot_read_line, too_long_line, read_limit}
use Rattle.iop_front.specs.Reading.{file_named}
use Rattle.iop_options.specs.Commands.{Command}
use Rattle.iop_front.specs.Keeping.{Written, written}
use Rattle.iop_front.specs.Named.{FileKind, AsScript, AsSnapshot, first_kind, files_of, inputs_of, kind_by, longest}

-- what can be seen outside: what the files tell, how often they have failed, and the sinks
pub record Outside : Type 0 where
  pub told : Option FilesTold
  pub faults : ℕ
  pub sinks : Written

module _ {F K C T : Type 0} where
  -- by what the files tell, how often they have failed, and what the keep and the two sinks tell
  abbrev pub outside : (F → Option FilesTold) → (F → ℕ) → (K → SinkTold) → (C → SinkTold)
      → (T → SinkTold) → F → K → C → T → Outside
  outside told faults keep_told console_told trace_told files keep console trace = record {
    told = told files;
    faults = faults files;
    sinks = written keep_told console_told trace_told keep console trace;
  }

-- where the files tell, these were opened and read in order, the first as one of this kind and the
-- others as modules, as far as said
abbrev pub FilesRead : (kind : FileKind) → List (List ℕ) → ℕ → Option FilesTold → Option FilesTold
    → Type 0
FilesRead kind names faults None new = new ≡ None
FilesRead kind names faults (Some files) None = ⊥
FilesRead kind names faults (Some files) (Some after) =
    OpensInOrder faults kind names files after

-- the content has all files that a command reads, if the words are one
abbrev pub HasFilesNamed : Option Command → FilesTold → Type 0
HasFilesNamed None files = Unit {0}
HasFilesNamed (Some command) files = All (λ name. IsSome (files.content name)) (files_of command)

-- a name is the one last asked for, or there is no such file; and before its opening so many faults
-- stood
abbrev pub IsNameAsked : List ℕ → ℕ → FilesTold → Type 0
IsNameAsked name faults files =
    IsAskedName files.asked name (files.content name) × (files.faults_before ≡ faults)

-- these files were read: where the files tell, the first bytes of those of these names
abbrev pub AreFilesOf : List (List ℕ) → List NamedFile → Option FilesTold → Type 0
AreFilesOf names files None = map (λ named. named.name) files ≡ names
AreFilesOf names files (Some told) =
    files
    ≡ map (λ name. record { name = name; file = take read_limit (file_named told name) }) names

pub record HasReadFiles (kind : FileKind) (names : List (List ℕ)) (files : List NamedFile)
    (old new : Outside) : Type 0 where
  pub are_files : AreFilesOf names files old.told
  pub read : FilesRead kind names old.faults old.told new.told
  pub no_fault : new.faults ≡ old.faults

-- after others a file could not be read: a call of the files failed
pub record HasNotReadFile (kind : FileKind) (before : List (List ℕ)) (name : List ℕ)
    (old new : Outside) : Type 0 where
  pub files : FilesRead kind (before ++ name ∷ []) old.faults old.told new.told
  pub cause : HasCause old.faults new.faults
  pub line : Refuses (cannot_read_line name) old.sinks new.sinks

-- no file was touched
pub record HasNoCommand (old new : Outside) : Type 0 where
  pub told : new.told ≡ old.told
  pub faults : new.faults ≡ old.faults
  pub line : Refuses bad_words_line old.sinks new.sinks

-- these files of a command whose run begins were read: the first is the script's, if it has one
pub record HasReadInputs (command : Command) (names left : List (List ℕ))
    (script : Option NamedFile) (files : List NamedFile) (old new : Outside) : Type 0 where
  pub begins : command.restore ≡ None
  pub are_names : inputs_of command ≡ names ++ left
  pub has_script : is_some script ≡ is_some command.script
  pub read : HasReadFiles (kind_by command.script) names (option_to_list script ++ files) old new

-- reading ended here: no name is left, the script is refused, or the last file is too long
abbrev pub EndsReading : Option NamedFile → List NamedFile → List (List ℕ) → Type 0
EndsReading script files left =
    (left ≡ []) ⊎ ((is_err (script_by script) ≡ true) ⊎ IsSome (first_too_long files))

-- the file of a snapshot has these bytes, where the files tell: its first ones, if it is too long
abbrev pub IsSnapshotOf : NamedFile → FilesTold → Type 0
IsSnapshotOf named told =
    named.file ≡ take (longest AsSnapshot + 1) (file_named told named.name)

-- the file of the snapshot from which a command goes on was read
pub record HasReadSnapshot (command : Command) (named : NamedFile) (old new : Outside)
    : Type 0 where
  pub is_named : command.restore ≡ Some named.name
  pub is_file : IfSome old.told (IsSnapshotOf named)
  pub bytes : All IsByte named.file
  pub read : FilesRead AsSnapshot (named.name ∷ []) old.faults old.told new.told
  pub no_fault : new.faults ≡ old.faults

-- by the command that the words are
pub data Answers : Option Command → Status → Outside → Outside → Type 0 where
  no_memory_for_words : {old new : Outside} {named : Option Command} → new ≡ old
      → Answers named NoMemory old new
  bad_words : {old new : Outside} → HasNoCommand old new → Answers None BadWords old new
  cannot_read : {old new : Outside} {command : Command} (before : List (List ℕ)) (name : List ℕ)
      (left : List (List ℕ)) → files_of command ≡ before ++ name ∷ left
      → HasNotReadFile (first_kind command) before name old new
      → Answers (Some command) CannotRead old new
  no_memory : {old new : Outside} {command : Command} (names left : List (List ℕ))
      → files_of command ≡ names ++ left
      → FilesRead (first_kind command) names old.faults old.told new.told
      → new.faults ≡ old.faults → new.sinks ≡ old.sinks → Answers (Some command) NoMemory old new
  from_files : {status : Status} {old new : Outside} {command : Command}
      (names left : List (List ℕ)) (script : Option NamedFile) (files : List NamedFile)
      → HasReadInputs command names left script files old new → EndsReading script files left
      → Meets (outcome_of_inputs command script files) status old.sinks new.sinks
      → Answers (Some command) status old new
  from_snapshot : {status : Status} {old new : Outside} {command : Command} (named : NamedFile)
      → HasReadSnapshot command named old new
      → Meets (outcome_of_snapshot command named) status old.sinks new.sinks
      → Answers (Some command) status old new

-- the command ran on files of all its names: what was written and answered is their outcome. Where
-- the files tell, these are the first bytes of what they have
pub record HasBegun (command : Command) (code : ℕ) (before after : Outside) : Type 0 where
  pub script : Option NamedFile
  pub modules : List NamedFile
  pub has_script : is_some script ≡ is_some command.script
  pub are_files : AreFilesOf (inputs_of command) (option_to_list script ++ modules) before.told
  pub outcome : MeetsCode (outcome_of_inputs command script modules) code before.sinks after.sinks

-- the command went on from the file of its snapshot: what was written and answered is its outcome
pub record HasGoneOn (command : Command) (name : List ℕ) (code : ℕ) (before after : Outside)
    : Type 0 where
  pub file : List ℕ
  pub bytes : All IsByte file
  pub is_file : IfSome before.told (IsSnapshotOf (record { name = name; file = file }))
  pub outcome : MeetsCode (outcome_of_snapshot command (record { name = name; file = file })) code
      before.sinks after.sinks

-- it did one of them, by whether it names a snapshot
abbrev pub HasRun : Command → (restore : Option (List ℕ)) → ℕ → Outside → Outside → Type 0
HasRun command None code before after = HasBegun command code before after
HasRun command (Some name) code before after = HasGoneOn command name code before after

-- 21: the script has a bad line, whose line was written, and no file but the script's was opened.
-- Where the files tell, it is the first bad line of that file, which is not too long
pub record HasBadScript (command : Command) (before after : Outside) : Type 0 where
  pub name : List ℕ
  pub named : command.script ≡ Some name
  pub found : BadLine
  pub line : Refuses (bad_script_line found.number) before.sinks after.sinks
  pub read : FilesRead AsScript (name ∷ []) before.faults before.told after.told
  pub asked : IfSome after.told (IsNameAsked name before.faults)
  pub bad : IfSome before.told (λ files. script_of (file_named files name) ≡ Err found)
  pub short : IfSome before.told (λ files. length (file_named files name) ≤ LONGEST_FILE)

-- 25: the file of the snapshot, which is not too long, is none from which a machine can go on, and its
-- line was written. Where the files tell, it is the file of that name
pub record IsBadSnapshot (command : Command) (before after : Outside) : Type 0 where
  pub name : List ℕ
  pub named : command.restore ≡ Some name
  pub line : Refuses (bad_snapshot_line name) before.sinks after.sinks
  pub read : FilesRead AsSnapshot (name ∷ []) before.faults before.told after.told
  pub asked : IfSome after.told (IsNameAsked name before.faults)
  pub file : List ℕ
  pub bytes : All IsByte file
  pub short : length file ≤ longest AsSnapshot
  pub bad : machine_in file ≡ None
  pub is_file : IfSome before.told (λ files. file_named files name ≡ file)

-- 22: a file that is named was not read. Its line was written, and where the files tell, its name is
-- the one last asked for, or there is no such file; and before its opening no call had failed
pub record IsUnread (names : List (List ℕ)) (before after : Outside) : Type 0 where
  pub name : List ℕ
  pub named : Contains names name
  pub line : Refuses (cannot_read_line name) before.sinks after.sinks
  pub asked : IfSome after.told (IsNameAsked name before.faults)

-- 23: a file that is named has more bytes than it may, and its line was written. Where the files
-- tell, its name is the one last asked for, or there is no such file
pub record IsTooLong (most : ℕ) (names : List (List ℕ)) (before after : Outside) : Type 0 where
  pub name : List ℕ
  pub named : Contains names name
  pub line : Refuses (too_long_line most name) before.sinks after.sinks
  pub asked : IfSome after.told (IsNameAsked name before.faults)
  pub long : IfSome before.told (λ files. most < length (file_named files name))

-- no file of a command is too long, its script has no bad line, and its snapshot is one
pub record AreGoodFiles (command : Command) (files : FilesTold) : Type 0 where
  pub short : All (λ name. length (file_named files name) ≤ longest (first_kind command))
      (files_of command)
  pub script : IfSome command.script (λ name. is_ok (script_of (file_named files name)) ≡ true)
  pub snapshot : IfSome command.restore (λ name. IsSome (machine_in (file_named files name)))

-- the first of a command's files were opened in order, and no other file
pub record OpensFirst (command : Command) (before after : Outside) : Type 0 where
  pub opened : List (List ℕ)
  pub left : List (List ℕ)
  pub are_first : files_of command ≡ opened ++ left
  pub files : FilesRead (first_kind command) opened before.faults before.told after.told
