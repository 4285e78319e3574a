-- A command whose files were read keeps what is promised.
use Rattle.std.proofs.Common.{◌≡◌, ◌⊎◌, ℕ, Option, Some, option_to_list, List, [], ◌∷◌, ◌++◌, refl, sym, subst}
use Rattle.iop_base.specs.Counts.{HasCause}
use Rattle.iop_machine.specs.Modules.{NamedFile}
use Rattle.iop_options.specs.Commands.{Command}
use Rattle.iop_ports.specs.Files.{FilesTold}
use Rattle.iop_front.specs.Answers.{Outside, AreFilesOf, AreGoodFiles, EndsReading, FilesRead, HasBadScript, HasReadInputs, HasReadSnapshot, HasRun, IsBadSnapshot, IsTooLong, OpensFirst}
use Rattle.iop_front.specs.Named.{first_kind, files_of, longest}
use Rattle.iop_front.specs.Outcome.{Meets, outcome_named, outcome_of_inputs, outcome_of_snapshot}
use Rattle.iop_front.specs.Promises.{Promises}
use Rattle.iop_front.specs.Statuses.{status_code, IsRunCode, IsRanCode}
use Rattle.iop_front.specs.declared.status.Status.{Status}
use Rattle.iop_front.proofs.Endings.{ShowsCode}
use Rattle.iop_front.proofs.FilesAnswered.{are_first, bad_script, completes, has_run, read_all, read_first, shown, too_long}
use Rattle.iop_front.proofs.SnapshotEndings as snapshot
use Rattle.iop_front.proofs.FrontLemmas.{read_outcome}
use Rattle.iop_front.proofs.Commands.{by_shown, named_strays, of_command}

-- a command whose files were read, as what is shown of it
pub record IsAnswered (command : Command) (status : Status) (old new : Outside) : Type 0 where
  shown : ShowsCode command.save (status_code status) old.sinks new.sinks
  no_fault : new.faults ≡ old.faults
  outcome : (told : FilesTold) → old.told ≡ Some told
      → Meets (outcome_named told (Some command)) status old.sinks new.sinks
  ran : IsRanCode (status_code status)
      → HasRun command command.restore (status_code status) old new
  opened : OpensFirst command old new
  read_all : IsRanCode (status_code status)
      → FilesRead (first_kind command) (files_of command) old.faults old.told new.told
  bad_script : status_code status ≡ 21 → HasBadScript command old new
  bad_snapshot : status_code status ≡ 25 → IsBadSnapshot command old new
  too_long : status_code status ≡ 23
      → IsTooLong (longest (first_kind command)) (files_of command) old new
  completes : (told : FilesTold) → old.told ≡ Some told → AreGoodFiles command told
      → ¬ HasCause old.sinks.output.trace_faults new.sinks.output.trace_faults
      → ¬ HasCause old.sinks.output.console_faults new.sinks.output.console_faults
      → ¬ HasCause old.sinks.keep.faults new.sinks.keep.faults
      → IsRunCode (status_code status) ⊎ (status_code status ≡ 30)

pub answered : {status : Status} {old new : Outside} {command : Command}
    → IsAnswered command status old new → Promises (Some command) (status_code status) old new
answered {status = status} {old = old} {new = new} {command = command} so =
    let code = so.shown in
    let keep = by_shown {command = command} {old = old} {new = new} code.keep in
    record {
      outcome = λ told is none. (status, refl, so.outcome told is);
      ran = λ other is run. of_command
          (λ c. HasRun c c.restore (status_code status) old new) (so.ran run) other is;
      bad_words = λ e. absurd (code.others.0 e);
      bad_words_show = λ is. absurd (cc);
      bad_words_line = λ e. absurd (code.others.0 e);
      bad_script_line = λ other is e.
          of_command (λ c. HasBadScript c old new) (so.bad_script e) other is;
      unread = λ e. absurd (code.others.1 e);
      unread_shows = λ other. absurd (other so.no_fault);
      unread_line = λ command is e. absurd (code.others.1 e);
      read = of_command (λ c. OpensFirst c old new) so.opened;
      read_all = λ other is run. of_command
          (λ c. FilesRead (first_kind c) (files_of c) old.faults old.told new.told)
          (so.read_all run) other is;
      no_stray = named_strays command old new so.opened.opened so.opened.left
          so.opened.are_first so.opened.files;
      too_long_line = λ other is e. of_command
          (λ c. IsTooLong (longest (first_kind c)) (files_of c) old new) (so.too_long e) other is;
      cut = code.cut;
      cut_shows = code.cut_shows;
      console_cut_shows = code.console_shows;
      keep_cut_shows = keep.cut;
      keep = keep.asks;
      keep_unsaved = keep.unsaved;
      keep_no_command = λ is. absurd (cc);
      keep_behind = keep.behind;
      keep_ended = keep.ended;
      bad_snapshot_line = λ other is e.
          of_command (λ c. IsBadSnapshot c old new) (so.bad_snapshot e) other is;
      console = λ refused. (code.console refused).taken;
      memory = code.memory;
      statuses = code.exit;
      complete = λ other is told has good read. so.completes told has
          (of_command (λ c. AreGoodFiles c told) good command (sym is));
    }

-- the files of a run that begins
pub from_files : {status : Status} {old new : Outside} {command : Command}
    (names left : List (List ℕ)) (script : Option NamedFile) (files : List NamedFile)
    → HasReadInputs command names left script files old new → EndsReading script files left
    → Meets (outcome_of_inputs command script files) status old.sinks new.sinks
    → IsAnswered command status old new
from_files {status = status} {old = old} {new = new} {command = command} names left script files was
    ends h =
    let so = shown was ends h in
    record {
      shown = so.code;
      no_fault = was.read.no_fault;
      outcome = λ told is. read_outcome command told names left script files status old.sinks
          new.sinks was.begins was.are_names was.has_script
          (subst (AreFilesOf names (option_to_list script ++ files)) is was.read.are_files) ends h;
      ran = has_run was ends h;
      opened = record {
        opened = names;
        left = left;
        are_first = are_first was ends h;
        files = read_first was ends h;
      };
      read_all = read_all was ends h;
      bad_script = bad_script was ends h;
      bad_snapshot = λ e. absurd (so.no_snapshot e);
      too_long = too_long was ends h;
      completes = completes was ends h;
    }

-- the file of a snapshot
pub from_snapshot : {status : Status} {old new : Outside} {command : Command} (named : NamedFile)
    → HasReadSnapshot command named old new
    → Meets (outcome_of_snapshot command named) status old.sinks new.sinks
    → IsAnswered command status old new
from_snapshot named was h = record {
  shown = snapshot.shown was h;
  no_fault = was.no_fault;
  outcome = snapshot.has_outcome was h;
  ran = λ run. snapshot.has_run was h;
  opened = record {
    opened = named.name ∷ [];
    left = [];
    are_first = snapshot.are_first was h;
    files = snapshot.read_first was h;
  };
  read_all = λ run. snapshot.read_all was h;
  bad_script = λ e. absurd (snapshot.no_script was h e);
  bad_snapshot = snapshot.bad_snapshot was h;
  too_long = snapshot.too_long was h;
  completes = snapshot.completes was h;
}
