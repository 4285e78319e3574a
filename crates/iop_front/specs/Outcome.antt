-- What a command is to write and to answer, by its words and the contents of the files: this
-- project's profile.
use Rattle.std.specs.Prelude.{◌≡◌, ◌⊎◌, ℕ, ◌+◌, ◌≤◌, nat_lt, Bool, true, false, not, if◌then◌else◌, Option, Some, None, option_map, unwrap_or, Result, Ok, Err, is_ok, List, [], ◌∷◌}
use Rattle.std.specs.Prelude.{◌++◌, codes, decimal, find, length, map}
use Rattle.iop_base.specs.Piece.{Piece, Traced}
use Rattle.iop_base.specs.Text.{line_bytes}
use Rattle.iop_base.specs.declared.line.Line.TheVariants.{End}
use Rattle.iop_base.specs.declared.stop.Stop.{Stop}
use Rattle.iop_base.specs.declared.stop.Stop.TheVariants.{Budget}
use Rattle.iop_machine.specs.Modules.{NamedFile, none_loaded}
use Rattle.iop_machine.specs.Restoring.{iop_in, is_savable_at, machine_in, snap}
use Rattle.iop_machine.specs.Stepping.{Ran, run_of}
use Rattle.iop_machine.specs.World.{World, beginning, booted}
use Rattle.iop_modload.specs.declared.limits.TheConstants.{LONGEST_FILE}
use Rattle.iop_ports.specs.Files.{FilesTold}
use Rattle.iop_ports.specs.Sinks.{SinkTold}
use Rattle.iop_script.specs.Reading.{BadLine, empty_script, script_of}
use Rattle.iop_script.specs.Scripts.{Script}
use Rattle.iop_trace.specs.Dumps.{dump_lines}
use Rattle.iop_trace.specs.Outs.{Leaves, output_with}
use Rattle.iop_ram.specs.Windows.{window_of}
use Rattle.iop_saved_machine.specs.Back.{MachineState}
use Rattle.iop_generator.specs.Sources.{source, file_of_source}
use Rattle.iop_options.specs.Values.{DumpRange, ram_bytes}
use Rattle.iop_front.specs.declared.status.Status.{Status}
use Rattle.iop_front.specs.declared.status.Status.TheVariants.{BadSnapshot, BadWords, BadScript, TooLong, SinkFault, NoMemory}
use Rattle.iop_options.specs.Commands.{Command}
use Rattle.iop_front.specs.Keeping.{KeptFile, Keeps, Written}
use Rattle.iop_front.specs.Named.{FileKind, AsScript, AsModule, AsSnapshot, longest}
use Rattle.iop_front.specs.Reading.{file_named, opened_with, left_after}
use Rattle.iop_front.specs.Statuses.{status_code, status_of}

-- the pieces for the console and the trace; the status where no write fails, and where one of these
-- does; and the file that is kept behind them, if one is
pub record Outcome : Type 0 where
  pub pieces : List Piece
  pub status : Status
  pub status_if_cut : Status
  pub kept : Option KeptFile

-- a refusal is one line on the trace; where its write fails, the status stays
abbrev pub refusal : Status → List ℕ → Outcome
refusal status line = record {
  pieces = Traced line ∷ [];
  status = status;
  status_if_cut = status;
  kept = None;
}

abbrev pub bad_words_line : List ℕ
bad_words_line = codes "iop: bad words\n"

-- the number of the line, from 1 on
abbrev pub bad_script_line : ℕ → List ℕ
bad_script_line number = codes "iop: script line " ++ decimal number ++ codes "\n"

abbrev pub cannot_read_line : List ℕ → List ℕ
cannot_read_line name = codes "iop: cannot read " ++ name ++ codes "\n"

-- of a file that may have so many bytes
abbrev pub too_long_line : (most : ℕ) → List ℕ → List ℕ
too_long_line most name =
    codes "iop: " ++ name ++ (codes " is over " ++ decimal most ++ codes " bytes\n")

abbrev pub bad_snapshot_line : List ℕ → List ℕ
bad_snapshot_line name = codes "iop: bad snapshot " ++ name ++ codes "\n"

-- the lines of a dump, if one is asked for
abbrev pub dump_pieces : (ram : List ℕ) → Option DumpRange → List Piece
dump_pieces ram None = []
dump_pieces ram (Some range) =
    map Traced (dump_lines range.from (unwrap_or (window_of ram range.from range.len) []))

-- what stands behind a run: the line of its end, and the dump of the memory that it leaves
abbrev pub ending_of : Option DumpRange → World → Stop → List Piece
ending_of dump world stop = Traced (line_bytes world.iop.kernel.clock (End stop))
    ∷ dump_pieces world.iop.memory.ram dump

-- whether a run that ended so, in this state, can be resumed
abbrev pub can_be_resumed : Stop → World → Bool
can_be_resumed Budget world = is_savable_at world.iop.kernel.clock
can_be_resumed stop world = false

-- the bytes of a machine's snapshot
unfoldable pub snapshot_of : World → List ℕ
snapshot_of world = snap world.iop

-- the snapshot of a run's end, under a name, if one is asked for and the run can be resumed
abbrev pub kept_of : (save : Option (List ℕ)) → World → Stop → Option KeptFile
kept_of None world stop = None
kept_of (Some name) world stop =
    if can_be_resumed stop world
    then Some (record { name = name; bytes = snapshot_of world }) else None

-- of a run
abbrev pub outcome_of_run : Option DumpRange → (save : Option (List ℕ)) → Ran → Outcome
outcome_of_run dump save ran = record {
  pieces = ran.pieces ++ ending_of dump ran.world ran.stop;
  status = status_of ran.stop;
  status_if_cut = SinkFault;
  kept = kept_of save ran.world ran.stop;
}

-- of a command's run from a machine
abbrev pub outcome_from : Command → World → Outcome
outcome_from command world =
    outcome_of_run command.dump command.save (run_of command.budget world)

-- the generated module, by the number of its workers
abbrev pub generated_module : ℕ → NamedFile
generated_module workers = record {
  name = codes "generated";
  file = unwrap_or (file_of_source (source workers)) [];
}

-- the modules to be loaded: those that were read, or the generated one
abbrev pub modules_to_load : (generate : Option ℕ) → List NamedFile → List NamedFile
modules_to_load None files = files
modules_to_load (Some workers) files = generated_module workers ∷ []

-- the run of the machine that loads the modules, one after the other, as the command and the script
-- say
abbrev pub outcome_of_modules : Command → Script → List NamedFile → Outcome
outcome_of_modules command script files = outcome_from command (beginning (ram_bytes command.ram)
    (none_loaded script (modules_to_load command.generate files)) script.events)

-- the first file that is too long
abbrev pub first_too_long : List NamedFile → Option NamedFile
first_too_long files = find (λ named. nat_lt LONGEST_FILE (length named.file)) files

-- it decides, and else the modules are run
abbrev pub outcome_by : Command → Option NamedFile → Script → List NamedFile → Outcome
outcome_by command (Some long) script files = refusal TooLong (too_long_line LONGEST_FILE long.name)
outcome_by command None script files = outcome_of_modules command script files

-- of the files of modules, in order
abbrev pub outcome_of_files : Command → Script → List NamedFile → Outcome
outcome_of_files command script files = outcome_by command (first_too_long files) script files

-- a script, or the refusal of its first bad line
abbrev pub script_read : Result Script BadLine → Result Script Outcome
script_read (Ok script) = Ok script
script_read (Err bad) = Err (refusal BadScript (bad_script_line bad.number))

-- the script of a file, or the refusal of the file: it is too long, or has a bad line
abbrev pub script_from : NamedFile → Result Script Outcome
script_from named =
    if nat_lt LONGEST_FILE (length named.file)
    then Err (refusal TooLong (too_long_line LONGEST_FILE named.name))
    else script_read (script_of named.file)

-- of the script's file, if there is one; else nothing is said
abbrev pub script_by : Option NamedFile → Result Script Outcome
script_by None = Ok empty_script
script_by (Some named) = script_from named

-- a refusal of the script decides before the modules
abbrev pub outcome_behind : Command → Result Script Outcome → List NamedFile → Outcome
outcome_behind command (Err refused) files = refused
outcome_behind command (Ok script) files = outcome_of_files command script files

-- of the script's file, if there is one, and of the files of modules
abbrev pub outcome_of_inputs : Command → Option NamedFile → List NamedFile → Outcome
outcome_of_inputs command script files = outcome_behind command (script_by script) files

-- of what a snapshot's file is a snapshot of, if it is one: it goes on
abbrev pub outcome_restored : Command → (name : List ℕ) → Option MachineState → Outcome
outcome_restored command name None = refusal BadSnapshot (bad_snapshot_line name)
outcome_restored command name (Some m) = outcome_from command (booted (iop_in m))

-- of the file of a snapshot
abbrev pub outcome_of_snapshot : Command → NamedFile → Outcome
outcome_of_snapshot command named =
    if nat_lt (longest AsSnapshot) (length named.file)
    then refusal TooLong (too_long_line (longest AsSnapshot) named.name)
    else outcome_restored command named.name (machine_in named.file)

-- the file of a name; a name that the content does not have counts as an empty file
abbrev pub named_file : FilesTold → List ℕ → NamedFile
named_file told name = record { name = name; file = file_named told name }

-- the outcome of a command, by whether it goes on from a snapshot
abbrev pub outcome_from_files : FilesTold → Command → (restore : Option (List ℕ)) → Outcome
outcome_from_files told command None =
    outcome_of_inputs command (option_map (named_file told) command.script)
    (map (named_file told) command.modules)
outcome_from_files told command (Some name) = outcome_of_snapshot command (named_file told name)

-- and by what the words are
abbrev pub outcome_named : FilesTold → Option Command → Outcome
outcome_named told None = refusal BadWords bad_words_line
outcome_named told (Some command) = outcome_from_files told command command.restore

-- the pieces are on the trace, or stop short where a write failed, by whether all are whole
abbrev pub TraceLeaves : Bool → SinkTold → SinkTold → List Piece → Type 0
TraceLeaves whole old new pieces = (console : SinkTold)
    → Leaves (not whole) (output_with console old false []) (output_with console new false []) pieces

-- a refusal's line was written to the trace, or a front of it, and a write failed; the keep was not
-- called
pub record Refuses (line : List ℕ) (old new : Written) : Type 0 where
  pub failed : Bool
  pub leaves : Leaves failed old.output new.output (Traced line ∷ [])
  pub keep : new.keep ≡ old.keep

-- the outcome came: all its pieces are there, and its file is kept; or they stop short where a
-- write failed, and the keep was not called; or they are there, and the file is not kept whole
pub data Comes (outcome : Outcome) (status : Status) (old new : Written) : Type 0 where
  all_written : status ≡ outcome.status → Leaves false old.output new.output outcome.pieces
      → Keeps outcome.kept true old.keep new.keep → Comes outcome status old new
  cut_short : status ≡ outcome.status_if_cut → Leaves true old.output new.output outcome.pieces
      → new.keep ≡ old.keep → Comes outcome status old new
  not_kept : status ≡ SinkFault → Leaves false old.output new.output outcome.pieces
      → Keeps outcome.kept false old.keep new.keep → Comes outcome status old new

-- or there was no memory, and nothing was written
abbrev pub Meets : Outcome → Status → Written → Written → Type 0
Meets outcome status old new = ((status ≡ NoMemory) × (new ≡ old)) ⊎ Comes outcome status old new

-- the same of the exit status
abbrev pub MeetsCode : Outcome → ℕ → Written → Written → Type 0
MeetsCode outcome code old new =
    (status : Status) × (code ≡ status_code status) × Meets outcome status old new

-- how many bytes of a script's or a module's file are read at most: one more than it may have
abbrev pub read_limit : ℕ
read_limit = LONGEST_FILE + 1

-- one file was opened as one of this kind, or its opening failed, and so many bytes of it were
-- read: one more than it may have, at most
pub record OpensAndReads (kind : FileKind) (name : List ℕ) (faults : ℕ) (old new : FilesTold)
    : Type 0 where
  pub opens : Bool
  pub taken : ℕ
  pub within : taken ≤ longest kind + 1
  pub files : new ≡ opened_with name opens faults (left_after name opens taken old) old

-- a script has no bad line
abbrev pub IsGoodFile : (kind : FileKind) → (file : List ℕ) → Type 0
IsGoodFile AsScript file = is_ok (script_of file) ≡ true
IsGoodFile AsModule file = Unit {0}
IsGoodFile AsSnapshot file = Unit {0}

-- another file may be opened behind this one only where it is not too long, and good
abbrev pub MayGoOn : (kind : FileKind) → (file : List ℕ) → List (List ℕ) → Type 0
MayGoOn kind file [] = Unit {0}
MayGoOn kind file (next ∷ names) = (length file ≤ LONGEST_FILE) × IsGoodFile kind file

-- so were these, one after the other, the first as one of this kind and the others as modules: none
-- behind one that is too long or a bad script; before each opening so many faults stood
pub data OpensInOrder (faults : ℕ)
    : (kind : FileKind) → List (List ℕ) → FilesTold → FilesTold → Type 0 where
  none : {kind : FileKind} {files : FilesTold} → OpensInOrder faults kind [] files files
  more : {kind : FileKind} {name : List ℕ} {names : List (List ℕ)} {old between new : FilesTold}
      → OpensAndReads kind name faults old between → MayGoOn kind (file_named old name) names
      → OpensInOrder faults AsModule names between new
      → OpensInOrder faults kind (name ∷ names) old new
