-- What the command promises of each of its answers, whatever words, files and sinks it is given:
-- this project's profile.
use Rattle.std.specs.Prelude.{◌≡◌, ◌≢◌, ◌⊎◌, ℕ, Option, Some, None, List}
use Rattle.iop_base.specs.Counts.{HasCause}
use Rattle.iop_options.specs.Commands.{Command}
use Rattle.iop_ports.specs.Files.{FilesTold}
use Rattle.iop_ports.specs.Creating.{AsksOnce}
use Rattle.iop_front.specs.Answers.{Outside, AreGoodFiles, HasRun, FilesRead, OpensFirst, HasFilesNamed, HasBadScript, IsBadSnapshot, IsUnread, IsTooLong}
use Rattle.iop_front.specs.Named.{first_kind, files_of, longest}
use Rattle.iop_front.specs.Outcome.{Refuses, MeetsCode, bad_words_line, outcome_named}
use Rattle.iop_front.specs.Statuses.{IsRunCode, IsRanCode, IsRefusalCode, IsExitCode, IsCutCode}

-- by the command that the words are, if they are one, the exit status, and what can be seen outside
module _ (named : Option Command) (code : ℕ) (before after : Outside) where
  -- it holds of the command, if the words are one
  abbrev pub OfCommand : (Command → Type 0) → Type 0
  OfCommand holds = (command : Command) → named ≡ Some command → holds command

  -- a call of the files failed; a write to the trace or to the console did
  abbrev pub FilesFailed : Type 0
  FilesFailed = HasCause before.faults after.faults

  abbrev pub TraceFailed : Type 0
  TraceFailed = HasCause before.sinks.output.trace_faults after.sinks.output.trace_faults

  abbrev pub ConsoleFailed : Type 0
  ConsoleFailed = HasCause before.sinks.output.console_faults after.sinks.output.console_faults

  -- a call of the keep did
  abbrev pub KeepFailed : Type 0
  KeepFailed = HasCause before.sinks.keep.faults after.sinks.keep.faults

  pub record Promises : Type 0 where
    -- What is written and answered is the outcome of the command, where the files tell and none
    -- failed.
    pub outcome : (told : FilesTold) → before.told ≡ Some told → ¬ FilesFailed
        → MeetsCode (outcome_named told named) code before.sinks after.sinks
    -- 0, 10, 11, and 24 of a run that was cut: they are the outcome of files of all names of the
    -- command, also where the files do not tell.
    pub ran : OfCommand (λ command.
        IsRanCode code → HasRun command command.restore code before after)
    -- 20: exactly where the words are no command, unless there is no memory to read them.
    pub bad_words : code ≡ 20 → named ≡ None
    pub bad_words_show : named ≡ None → (code ≡ 20) ⊎ (code ≡ 30)
    pub bad_words_line : code ≡ 20 → Refuses bad_words_line before.sinks after.sinks
    -- 21: the line of a script with a bad line, which is not too long. No module's file is opened
    -- then.
    pub bad_script_line : OfCommand (λ command. code ≡ 21 → HasBadScript command before after)
    -- 22: only where a call of the files failed, and always there.
    pub unread : code ≡ 22 → FilesFailed
    pub unread_shows : after.faults ≢ before.faults → code ≡ 22
    pub unread_line : OfCommand (λ command. code ≡ 22 → IsUnread (files_of command) before after)
    -- Where the files tell, those that the words name are opened in order, no other, none behind
    -- one that is too long or behind a script with a bad line, and at most one byte more of each is
    -- read than it may have (`longest`): all of them before a run.
    pub read : OfCommand (λ command. OpensFirst command before after)
    pub read_all : OfCommand (λ command. IsRanCode code
        → FilesRead (first_kind command) (files_of command) before.faults before.told after.told)
    pub no_stray : (first last : FilesTold) → before.told ≡ Some first → after.told ≡ Some last
        → HasFilesNamed named first → last.strays ≡ first.strays
    -- 23: the line of a file that is too long.
    pub too_long_line : OfCommand (λ command.
        code ≡ 23 → IsTooLong (longest (first_kind command)) (files_of command) before after)
    -- 24: only where a write failed, or the keep; where one to the console failed, or the keep,
    -- always, and where one to the trace failed, 24 or a refusal's.
    pub cut : code ≡ 24 → TraceFailed ⊎ (ConsoleFailed ⊎ KeepFailed)
    pub cut_shows : after.sinks.output.trace_faults ≢ before.sinks.output.trace_faults
        → IsCutCode code
    pub console_cut_shows : after.sinks.output.console_faults ≢ before.sinks.output.console_faults
        → code ≡ 24
    pub keep_cut_shows : after.sinks.keep.faults ≢ before.sinks.keep.faults → code ≡ 24
    -- At most one file is asked for, that of `--save`, and no write to it fails before.
    pub keep : OfCommand (λ command. (name : List ℕ) → command.save ≡ Some name
        → AsksOnce name before.sinks.keep after.sinks.keep)
    -- None is asked for, and the keep stays as it is, where none is to be saved, where the words
    -- are no command, where a write to the console or to the trace failed, and where the status is
    -- neither 10 nor 24.
    pub keep_unsaved : OfCommand (λ command.
        command.save ≡ None → after.sinks.keep ≡ before.sinks.keep)
    pub keep_no_command : named ≡ None → after.sinks.keep ≡ before.sinks.keep
    pub keep_behind : (after.sinks.output.trace_faults ≢ before.sinks.output.trace_faults)
        ⊎ (after.sinks.output.console_faults ≢ before.sinks.output.console_faults)
        → after.sinks.keep ≡ before.sinks.keep
    pub keep_ended : code ≢ 10 → code ≢ 24 → after.sinks.keep ≡ before.sinks.keep
    -- 25: the line of a file that is no snapshot.
    pub bad_snapshot_line : OfCommand (λ command. code ≡ 25 → IsBadSnapshot command before after)
    -- A refusal writes nothing to the console.
    pub console : IsRefusalCode code → after.sinks.output.console ≡ before.sinks.output.console
    -- 30: no memory. Nothing is written then.
    pub memory : code ≡ 30 → after.sinks ≡ before.sinks
    -- There is no other answer. Where none of these has its cause, the command runs, but for 30.
    pub statuses : IsExitCode code
    pub complete : OfCommand (λ command. (told : FilesTold) → before.told ≡ Some told
        → AreGoodFiles command told → ¬ FilesFailed → ¬ TraceFailed → ¬ ConsoleFailed
        → ¬ KeepFailed → IsRunCode code ⊎ (code ≡ 30))
