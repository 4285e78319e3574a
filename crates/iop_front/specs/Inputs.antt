-- What reading the script and the modules of a command gives: all of them, or why they were not
-- read.
use Rattle.std.specs.Prelude.{◌≡◌, ℕ, ◌≤◌, Option, Some, None, is_some, option_to_list, Ok, Err, List, [], ◌∷◌, ◌++◌, length}
use Rattle.iop_base.specs.Counts.{HasCause}
use Rattle.iop_machine.specs.Modules.{NamedFile}
use Rattle.iop_modload.specs.declared.limits.TheConstants.{LONGEST_FILE}
use Rattle.iop_ports.specs.Files.{FilesTold}
use Rattle.iop_front.specs.Answers.{FilesRead, AreFilesOf}
use Rattle.iop_front.specs.Outcome.{IsGoodFile, first_too_long}
use Rattle.iop_options.specs.declared.limits.TheConstants.{LONGEST_WORD}
use Rattle.iop_front.specs.declared.unread.Unread.{Unread}
use Rattle.iop_front.specs.declared.unread.Unread.TheVariants.{Unreadable, TooLong, BadScript, NoMemory}
use Rattle.iop_options.specs.Commands.{Command}
use Rattle.iop_front.specs.Named.{FileKind, AsScript, kind_by, inputs_of}
use Rattle.iop_script.specs.Reading.{BadLine, empty_script, script_of}
use Rattle.iop_script.specs.Scripts.{Script}
use Rattle.iop_script.specs.declared.fault.ScriptFault.{ScriptFault}
use Rattle.iop_script.specs.declared.fault.ScriptFault.TheVariants.{Line, Memory}

-- why a script's text with this fault is not read
abbrev pub unread_of : ScriptFault → Unread
unread_of (Line number rule) = BadScript number
unread_of Memory = NoMemory

-- what can be seen of the files: what they tell, and how often they have failed
pub record Seen : Type 0 where
  pub told : Option FilesTold
  pub faults : ℕ

module _ {F : Type 0} where
  abbrev pub seen : (F → Option FilesTold) → (F → ℕ) → F → Seen
  seen told faults files = record { told = told files; faults = faults files }

-- a module whose word and whose file are not too long
pub record IsShort (named : NamedFile) : Type 0 where
  pub name : length named.name ≤ LONGEST_WORD
  pub file : length named.file ≤ LONGEST_FILE

-- behind the first file, which is of this kind, others were read only where it is good
abbrev pub GoesOn : (kind : FileKind) → List NamedFile → Type 0
GoesOn kind [] = Unit {0}
GoesOn kind (first ∷ []) = Unit {0}
GoesOn kind (first ∷ next ∷ files) = IsGoodFile kind first.file

-- these files were opened and read, one after the other, the first as one of this kind and the
-- others as modules, and no call failed
pub record HasTaken (kind : FileKind) (names : List (List ℕ)) (files : List NamedFile)
    (old new : Seen) : Type 0 where
  pub are_files : AreFilesOf names files old.told
  pub goes_on : GoesOn kind files
  pub read : FilesRead kind names old.faults old.told new.told
  pub no_fault : new.faults ≡ old.faults

-- the file of this name could not be read, and none behind it was opened
pub record HasStoppedUnread (kind : FileKind) (names : List (List ℕ)) (name : List ℕ)
    (old new : Seen) : Type 0 where
  pub before : List (List ℕ)
  pub left : List (List ℕ)
  pub are_names : names ≡ before ++ name ∷ left
  pub read : FilesRead kind (before ++ name ∷ []) old.faults old.told new.told
  pub cause : HasCause old.faults new.faults

-- the file of this name is the first that is too long, and none behind it was opened
pub record HasStoppedTooLong (kind : FileKind) (names : List (List ℕ)) (name : List ℕ)
    (old new : Seen) : Type 0 where
  pub opened : List (List ℕ)
  pub left : List (List ℕ)
  pub are_names : names ≡ opened ++ left
  pub files : List NamedFile
  pub file : List ℕ
  pub taken : HasTaken kind opened files old new
  pub decides : first_too_long files ≡ Some (record { name = name; file = file })

-- the first file is a script whose first bad line has this number, and none behind it was opened
pub record HasStoppedBad (kind : FileKind) (names : List (List ℕ)) (number : ℕ)
    (old new : Seen) : Type 0 where
  pub as_script : kind ≡ AsScript
  pub file : NamedFile
  pub left : List (List ℕ)
  pub are_names : names ≡ file.name ∷ left
  pub taken : HasTaken kind (file.name ∷ []) (file ∷ []) old new
  pub short : length file.file ≤ LONGEST_FILE
  pub found : BadLine
  pub is_number : found.number ≡ number
  pub bad : script_of file.file ≡ Err found

-- there was no memory, and no further file was opened
pub record HasStoppedShort (kind : FileKind) (names : List (List ℕ)) (old new : Seen)
    : Type 0 where
  pub opened : List (List ℕ)
  pub left : List (List ℕ)
  pub are_names : names ≡ opened ++ left
  pub read : FilesRead kind opened old.faults old.told new.told
  pub no_fault : new.faults ≡ old.faults

-- why the files of these names, of which the first is of this kind, were not all read
abbrev pub HasStopped : (kind : FileKind) → List (List ℕ) → Unread → Seen → Seen → Type 0
HasStopped kind names (Unreadable name) old new =
    HasStoppedUnread kind names name.now old new
HasStopped kind names (TooLong name) old new =
    HasStoppedTooLong kind names name.now old new
HasStopped kind names (BadScript number) old new =
    HasStoppedBad kind names number old new
HasStopped kind names NoMemory old new = HasStoppedShort kind names old new

-- a script is that of a file, which is not too long, or the empty one where there is no file
abbrev pub IsScriptOf : Option NamedFile → Script → Type 0
IsScriptOf None script = script ≡ empty_script
IsScriptOf (Some file) script =
    (length file.file ≤ LONGEST_FILE) × (script_of file.file ≡ Ok script)

-- the file of a script was read, if one is named
pub record HasScript (name : Option (List ℕ)) (script : Script) (old new : Seen) : Type 0 where
  pub file : Option NamedFile
  pub has_file : is_some file ≡ is_some name
  pub taken : HasTaken (kind_by name) (option_to_list name) (option_to_list file) old new
  pub says : IsScriptOf file script

-- the files of a command whose run begins were read, all of them: its script's, if it has one, and
-- its modules'
pub record HasInputs (command : Command) (script : Script) (modules : List NamedFile)
    (old new : Seen) : Type 0 where
  pub file : Option NamedFile
  pub has_file : is_some file ≡ is_some command.script
  pub taken : HasTaken (kind_by command.script) (inputs_of command) (option_to_list file ++ modules)
      old new
  pub says : IsScriptOf file script
