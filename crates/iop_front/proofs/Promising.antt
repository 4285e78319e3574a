-- The command keeps what it promises, in each of the ways in which it comes to its answer.
use Rattle.std.proofs.Common.{◌≡◌, ℕ, Option, Some, None, List, [], ◌∷◌, ◌++◌, Contains, refl, ap, sym, ◌∙◌, subst, arith, inl, inr}
use Rattle.std.proofs.lemmas.List.{append_assoc}
use Rattle.std.proofs.lemmas.List.Elements.{Contains-append_left, Contains-push}
use Rattle.iop_options.specs.Commands.{Command}
use Rattle.iop_ports.specs.Files.{FilesTold}
use Rattle.iop_front.specs.Answers as ways
use Rattle.iop_front.specs.Answers.{Answers, Outside, AreFilesOf, AreGoodFiles, EndsReading, FilesRead, HasBadScript, HasFilesNamed, HasNoCommand, HasNotReadFile, HasReadInputs, HasReadSnapshot, HasRun, IsBadSnapshot, IsTooLong, IsUnread, OpensFirst}
use Rattle.iop_front.specs.Keeping.{Written}
use Rattle.iop_front.specs.Named.{first_kind, files_of}
use Rattle.iop_front.specs.Outcome.{bad_words_line, cannot_read_line, refusal}
use Rattle.iop_front.specs.Promises.{Promises}
use Rattle.iop_front.specs.Statuses.{status_code}
use Rattle.iop_front.specs.declared.status.Status.{Status}
use Rattle.iop_front.specs.declared.status.Status.TheVariants.{BadWords, NoMemory}
use Rattle.iop_front.proofs.AnswerLemmas.{refusal_meets}
use Rattle.iop_front.proofs.SendingLemmas.{refusal_console}
use Rattle.iop_front.proofs.OpeningLemmas.{name_asked, no_stray, read_none}
use Rattle.iop_front.proofs.Answered.{answered, from_files, from_snapshot}
use Rattle.iop_front.proofs.Commands.{named_strays, of_command, same_strays, uncalled}

-- there was no memory: nothing was written
without_memory : {named : Option Command} {old new : Outside} → new.faults ≡ old.faults
    → new.sinks ≡ old.sinks
    → ((command : Command) → named ≡ Some command → OpensFirst command old new)
    → ((first last : FilesTold) → old.told ≡ Some first → new.told ≡ Some last
    → HasFilesNamed named first → last.strays ≡ first.strays)
    → Promises named 30 old new
without_memory {named = named} {old = old} {new = new} calm same read no_stray = record {
  outcome = λ told is none. (NoMemory, refl, inl (refl, same));
  ran = λ command is run. absurd (grind arith);
  bad_words = λ e. absurd (omega arith);
  bad_words_show = λ is. inr refl;
  bad_words_line = λ e. absurd (omega arith);
  bad_script_line = λ command is e. absurd (omega arith);
  unread = λ e. absurd (omega arith);
  unread_shows = λ other. absurd (other calm);
  unread_line = λ command is e. absurd (omega arith);
  read = read;
  read_all = λ command is run. absurd (grind arith);
  no_stray = no_stray;
  too_long_line = λ command is e. absurd (omega arith);
  cut = λ e. absurd (omega arith);
  cut_shows = λ other. absurd (other (ap (λ (s : Written). s.output.trace_faults) same));
  console_cut_shows = λ other.
      absurd (other (ap (λ (s : Written). s.output.console_faults) same));
  keep_cut_shows = λ other. absurd (other (ap (λ (s : Written). s.keep.faults) same));
  keep = (uncalled named 30 old new (ap (λ (s : Written). s.keep) same)).asks;
  keep_unsaved = λ command is e. ap (λ (s : Written). s.keep) same;
  keep_no_command = λ is. ap (λ (s : Written). s.keep) same;
  keep_behind = λ failed. ap (λ (s : Written). s.keep) same;
  keep_ended = λ other cut. ap (λ (s : Written). s.keep) same;
  bad_snapshot_line = λ command is e. absurd (omega arith);
  console = λ refused. ap (λ (s : Written). s.output.console) same;
  memory = λ e. same;
  statuses = inr (inr (inr refl));
  complete = λ command is told has good read traced printed saved. inr refl;
}

-- for the words: no file was touched
without_words : (named : Option Command) (seen : Outside) → Promises named 30 seen seen
without_words named seen = without_memory refl refl (λ command is. record {
  opened = [];
  left = files_of command;
  are_first = refl;
  files = read_none (first_kind command) seen.faults seen.told;
}) (λ first last p q there. same_strays refl first last p q)

-- the words are no command: its line was written
no_command : {old new : Outside} → HasNoCommand old new → Promises None 20 old new
no_command {old = old} {new = new} was =
    let same = refusal_console bad_words_line old.sinks new.sinks was.line in
    let keep = uncalled None 20 old new was.line.keep in
    record {
      outcome = λ told is none. (
        BadWords,
        refl,
        refusal_meets BadWords BadWords bad_words_line (refusal BadWords bad_words_line) old.sinks
            new.sinks refl refl was.line,
      );
      ran = λ command is run. absurd (grind arith);
      bad_words = λ e. refl;
      bad_words_show = λ is. inl refl;
      bad_words_line = λ e. was.line;
      bad_script_line = λ command is e. absurd (omega arith);
      unread = λ e. absurd (omega arith);
      unread_shows = λ other. absurd (other was.faults);
      unread_line = λ command is e. absurd (omega arith);
      read = λ command is. absurd (cc);
      read_all = λ command is run. absurd (grind arith);
      no_stray = λ first last p q there. same_strays was.told first last p q;
      too_long_line = λ command is e. absurd (omega arith);
      cut = λ e. absurd (omega arith);
      cut_shows = λ other. inr (inl refl);
      console_cut_shows = λ other. absurd (other same.faults);
      keep_cut_shows = keep.cut;
      keep = keep.asks;
      keep_unsaved = keep.unsaved;
      keep_no_command = λ is. was.line.keep;
      keep_behind = keep.behind;
      keep_ended = keep.ended;
      bad_snapshot_line = λ command is e. absurd (omega arith);
      console = λ refused. same.taken;
      memory = λ e. absurd (omega arith);
      statuses = inr (inl (inl refl));
      complete = λ command is told has good read traced printed saved. absurd (cc);
    }

-- a file could not be read: its line was written
unread : {old new : Outside} {command : Command} (before : List (List ℕ)) (name : List ℕ)
    (left : List (List ℕ)) → files_of command ≡ before ++ name ∷ left
    → HasNotReadFile (first_kind command) before name old new
    → Promises (Some command) 22 old new
unread {old = old} {new = new} {command = command} before name left are was =
    let same = refusal_console (cannot_read_line name) old.sinks new.sinks was.line in
    let keep = uncalled (Some command) 22 old new was.line.keep in
    let opened = before ++ name ∷ [] in
    let are_opened : files_of command ≡ opened ++ left =
    are ∙ sym (append_assoc before (name ∷ []) left) in
    record {
      outcome = λ told is none. absurd (none was.cause);
      ran = λ command is run. absurd (grind arith);
      bad_words = λ e. absurd (omega arith);
      bad_words_show = λ is. absurd (cc);
      bad_words_line = λ e. absurd (omega arith);
      bad_script_line = λ command is e. absurd (omega arith);
      unread = λ e. was.cause;
      unread_shows = λ other. refl;
      unread_line = λ other is e. of_command (λ c. IsUnread (files_of c) old new) (record {
        name = name;
        named = subst (λ (ns : List (List ℕ)). Contains ns name) (sym are_opened)
            (Contains-append_left opened left name (Contains-push before name));
        line = was.line;
        asked = name_asked old.faults (first_kind command) before name old.told new.told was.files;
      }) other is;
      read = of_command (λ c. OpensFirst c old new) (record {
        opened = opened;
        left = left;
        are_first = are_opened;
        files = was.files;
      });
      read_all = λ command is run. absurd (grind arith);
      no_stray = named_strays command old new opened left are_opened was.files;
      too_long_line = λ command is e. absurd (omega arith);
      cut = λ e. absurd (omega arith);
      cut_shows = λ other. inr (inr (inr (inl refl)));
      console_cut_shows = λ other. absurd (other same.faults);
      keep_cut_shows = keep.cut;
      keep = keep.asks;
      keep_unsaved = keep.unsaved;
      keep_no_command = λ is. was.line.keep;
      keep_behind = keep.behind;
      keep_ended = keep.ended;
      bad_snapshot_line = λ command is e. absurd (omega arith);
      console = λ refused. same.taken;
      memory = λ e. absurd (omega arith);
      statuses = inr (inl (inr (inr (inl refl))));
      complete = λ command is told has good read traced printed saved. absurd (read was.cause);
    }

pub promises : {named : Option Command} {status : Status} {old new : Outside}
    → Answers named status old new → Promises named (status_code status) old new
promises {old = old} {new = new} (ways.no_memory_for_words {named = named} same) =
    subst (λ (seen : Outside). Promises named 30 old seen) (sym same) (without_words named old)
promises (ways.bad_words was) = no_command was
promises (ways.cannot_read before name left are was) = unread before name left are was
promises {old = old} {new = new}
    (ways.no_memory {command = command} names left are read calm same) =
    without_memory calm same (of_command (λ c. OpensFirst c old new)
    (record { opened = names; left = left; are_first = are; files = read }))
    (named_strays command old new names left are read)
promises (ways.from_files names left script files was ends h) =
    answered (from_files names left script files was ends h)
promises (ways.from_snapshot named was h) = answered (from_snapshot named was h)
