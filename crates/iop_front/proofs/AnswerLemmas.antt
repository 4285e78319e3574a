-- From what the parts of the command do to the answers.
use Rattle.std.proofs.Common.{◌≡◌, ◌⊎◌, ℕ, nat_lt, Bool, true, false, not, Option, Some, None, option_to_list, IsSome, is_some, Result, Ok, Err, is_ok, is_err, List, [], ◌∷◌, ◌++◌, All, length, append-nil, refl, ap, sym, ◌∙◌, subst, arith, inl, inr}
use Rattle.std.proofs.lemmas.Bool.Decides.{nat_tests}
use Rattle.iop_base.specs.Piece.{Traced}
use Rattle.iop_machine.specs.Modules.{NamedFile}
use Rattle.iop_machine.specs.Restoring.{iop_in}
use Rattle.iop_machine.specs.World.{booted}
use Rattle.iop_modload.specs.declared.limits.TheConstants.{LONGEST_FILE}
use Rattle.iop_options.specs.Commands.{Command}
use Rattle.iop_ports.specs.Sinks.{SinkTold, plain_sink, Sends}
use Rattle.iop_saved_machine.specs.Back.{MachineState}
use Rattle.iop_script.specs.Reading.{BadLine, empty_script, script_of}
use Rattle.iop_script.specs.Scripts.{Script}
use Rattle.iop_trace.specs.Outs.{Leaves, output_with}
use Rattle.iop_front.specs.Answers.{Answers, FilesRead, HasReadFiles, Outside, HasNoCommand, bad_words, no_memory_for_words, cannot_read, no_memory, from_files, from_snapshot}
use Rattle.iop_front.specs.Inputs.{Seen, GoesOn, HasTaken, HasInputs, HasStoppedUnread, HasStoppedTooLong, HasStoppedBad, HasStoppedShort, IsScriptOf, IsShort}
use Rattle.iop_front.specs.Keeping.{Written}
use Rattle.iop_front.specs.Outcome.{Outcome, Meets, Comes, Refuses, all_written, cut_short, refusal, bad_script_line, bad_snapshot_line, cannot_read_line, too_long_line, first_too_long, script_by, outcome_behind, outcome_by, outcome_from, outcome_of_inputs, outcome_of_modules, outcome_of_snapshot}
use Rattle.iop_front.specs.Named.{FileKind, AsScript, AsSnapshot, inputs_of, kind_by, longest}
use Rattle.iop_front.specs.Snapshots.{HasTakenFile, HasLongFile, HasBadFile, HasRestored}
use Rattle.iop_front.specs.declared.status.Status.{Status}
use Rattle.iop_front.specs.declared.status.Status.TheVariants.{BadSnapshot, BadWords, BadScript, CannotRead, TooLong, NoMemory}
use Rattle.iop_front.proofs.CommandFiles.{ReadsFiles, reads_inputs, reads_snapshot}
use Rattle.iop_front.proofs.OpeningLemmas.{found}
use Rattle.iop_front.proofs.OutcomeLemmas.{from_long, from_long_snapshot, from_short, from_short_snapshot, goes_on_from, long_outcome}
use Rattle.iop_front.proofs.SendingLemmas.{sent_leaves}
use Rattle.iop_front.proofs.TakingLemmas.{files_short, none_too_long}

-- the line of a refusal that was sent to the trace, by what the console tells
pub refuses : (whole : Bool) (sent line : List ℕ) (taken : Option (List ℕ)) (faults : ℕ)
    (keep old new : SinkTold) → sent ≡ line → Sends whole sent old new
    → Refuses line
    (record { output = output_with (plain_sink taken faults) old false []; keep = keep })
    (record { output = output_with (plain_sink taken faults) new false []; keep = keep })
refuses whole sent line taken faults keep old new same h = record {
  failed = not whole;
  leaves = sent_leaves whole line (plain_sink taken faults) old new
      (subst (λ x. Sends whole x old new) same h);
  keep = refl;
}

-- what is seen of the files, and of the sinks
abbrev pub outside_of : Seen → Written → Outside
outside_of seen sinks = record { told = seen.told; faults = seen.faults; sinks = sinks }

-- the words are no command
pub bad_words_by : (named : Option Command) (status : Status) (old new : Outside)
    → named ≡ None → status ≡ BadWords → HasNoCommand old new → Answers named status old new
bad_words_by named status old new none e h = rw (none, e) (bad_words h)

-- there was no memory to read the words
pub no_memory_by : (named : Option Command) (status : Status) (old new : Outside)
    → status ≡ NoMemory → new ≡ old → Answers named status old new
no_memory_by named status old new e same = rw e (no_memory_for_words same)

-- files that were read, of which the first that is too long is this one: what they say
record IsLongInput (command : Command) (name : Option (List ℕ)) (files : List NamedFile)
    (long : NamedFile) : Type 0 where
  script : Option NamedFile
  modules : List NamedFile
  has_script : is_some script ≡ is_some name
  are : option_to_list script ++ modules ≡ files
  is : outcome_of_inputs command script modules
      ≡ refusal TooLong (too_long_line LONGEST_FILE long.name)
  ends : (is_err (script_by script) ≡ true) ⊎ IsSome (first_too_long modules)

-- behind a script that is not too long, by what it reads as
long_behind : (command : Command) (name : List ℕ) (script : NamedFile) (modules : List NamedFile)
    (long : NamedFile) (read : Result Script BadLine)
    → nat_lt LONGEST_FILE (length script.file) ≡ false
    → first_too_long modules ≡ Some long → GoesOn AsScript (script ∷ modules)
    → script_of script.file ≡ read → IsLongInput command (Some name) (script ∷ modules) long
long_behind command name script [] long read short e on is = absurd (cc)
long_behind command name script (first ∷ rest) long (Err found) short e on is =
    let bad : false ≡ true = sym (ap is_ok is) ∙ on in absurd (cc)
long_behind command name script (first ∷ rest) long (Ok says) short e on is = record {
  script = Some script;
  modules = first ∷ rest;
  has_script = refl;
  are = refl;
  is = ap (λ r. outcome_behind command r (first ∷ rest)) (from_short script (Ok says) short is)
      ∙ long_outcome command says (first ∷ rest) long e;
  ends = inr (ap is_some e);
}

-- by the first file, if a script is named
long_input : (command : Command) (name : Option (List ℕ)) (files : List NamedFile)
    (long : NamedFile) → first_too_long files ≡ Some long → GoesOn (kind_by name) files
    → IsLongInput command name files long
long_input command None files long e on = record {
  script = None;
  modules = files;
  has_script = refl;
  are = refl;
  is = long_outcome command empty_script files long e;
  ends = inr (ap is_some e);
}
long_input command (Some name) [] long e on = absurd (cc)
long_input command (Some name) (script ∷ modules) long e on = elim (found script modules long e) [
  | inl h ↦ record {
    script = Some script;
    modules = modules;
    has_script = refl;
    are = refl;
    is = ap (λ r. outcome_behind command r modules) (from_long script h.0)
        ∙ ap (λ (named : NamedFile). refusal TooLong (too_long_line LONGEST_FILE named.name)) h.1;
    ends = inl (ap is_err (from_long script h.0));
  }
  | inr h ↦ long_behind command name script modules long (script_of script.file) h.0 h.1 on refl
]

-- where the first file is read as a script, one is named
script_named : (script : Option (List ℕ)) → kind_by script ≡ AsScript → true ≡ is_some script
script_named None e = absurd (cc)
script_named (Some name) e = refl

-- whether or not the write failed
refusal_comes : (status refused : Status) (line : List ℕ) (failed : Bool) (old new : Written)
    → status ≡ refused → Leaves failed old.output new.output (Traced line ∷ [])
    → new.keep ≡ old.keep → Comes (refusal refused line) status old new
refusal_comes status refused line true old new e h same = cut_short e h same
refusal_comes status refused line false old new e h same = all_written e h (refl, same)

-- the line of a refusal is the outcome
pub refusal_meets : (status refused : Status) (line : List ℕ) (outcome : Outcome)
    (old new : Written)
    → outcome ≡ refusal refused line → status ≡ refused → Refuses line old new
    → Meets outcome status old new
refusal_meets status refused line outcome old new is e h =
    subst (λ (o : Outcome). Meets o status old new) (sym is)
    (inr (refusal_comes status refused line h.failed old new e h.leaves h.keep))

-- a script that was read
script_says : (file : Option NamedFile) (script : Script) → IsScriptOf file script
    → script_by file ≡ Ok script
script_says None script e = ap Ok (sym e)
script_says (Some file) script h =
    let short = h.0 in
    from_short file (Ok script) (grind (arith, nat_tests, short)) h.1

-- files that were taken were read
files_read : {kind : FileKind} {names : List (List ℕ)} {files : List NamedFile} {old new : Seen}
    {sinks after : Written} → HasTaken kind names files old new
    → HasReadFiles kind names files (outside_of old sinks) (outside_of new after)
files_read h = record { are_files = h.are_files; read = h.read; no_fault = h.no_fault }

-- what the command does to the files and the sinks is this answer
abbrev IsAnswer : Command → Status → Seen → Seen → Written → Written → Type 0
IsAnswer command status old new sinks after =
    Answers (Some command) status (outside_of old sinks) (outside_of new after)

module _ {command : Command} {status : Status} {old new : Seen} {sinks after : Written} where
  -- by the status that it is
  of_status : (other : Status) → status ≡ other → IsAnswer command other old new sinks after
      → IsAnswer command status old new sinks after
  of_status other e = subst (λ (s : Status). IsAnswer command s old new sinks after) (sym e)

  module _ (kind : FileKind) (names : List (List ℕ)) (reads : ReadsFiles command kind names) where
    unread_by : (name : List ℕ) → HasStoppedUnread kind names name old new
        → status ≡ CannotRead → Refuses (cannot_read_line name) sinks after
        → IsAnswer command status old new sinks after
    unread_by name h e line =
        of_status CannotRead e (cannot_read h.before name h.left (reads.names_are ∙ h.are_names)
        (record {
          files = subst
              (λ k. FilesRead k (h.before ++ name ∷ []) old.faults old.told new.told)
              (sym reads.kind_is) h.read;
          cause = h.cause;
          line = line;
        }))

    short_by : HasStoppedShort kind names old new → status ≡ NoMemory → after ≡ sinks
        → IsAnswer command status old new sinks after
    short_by h e same =
        of_status NoMemory e (no_memory h.opened h.left (reads.names_are ∙ h.are_names)
        (subst (λ k. FilesRead k h.opened old.faults old.told new.told) (sym reads.kind_is) h.read)
        h.no_fault same)

  -- where the run begins
  module _ (begins : command.restore ≡ None) where
    pub answers_unread : (name : List ℕ)
        → HasStoppedUnread (kind_by command.script) (inputs_of command) name old new
        → status ≡ CannotRead → Refuses (cannot_read_line name) sinks after
        → IsAnswer command status old new sinks after
    answers_unread = unread_by _ _ (reads_inputs command begins)

    pub answers_short : HasStoppedShort (kind_by command.script) (inputs_of command) old new
        → status ≡ NoMemory → after ≡ sinks → IsAnswer command status old new sinks after
    answers_short = short_by _ _ (reads_inputs command begins)

    pub answers_too_long : (name : List ℕ)
        → HasStoppedTooLong (kind_by command.script) (inputs_of command) name old new
        → status ≡ TooLong → Refuses (too_long_line LONGEST_FILE name) sinks after
        → IsAnswer command status old new sinks after
    answers_too_long name h e line =
        let long : NamedFile = record { name = name; file = h.file } in
        let is = long_input command command.script h.files long h.decides h.taken.goes_on in
        from_files h.opened h.left is.script is.modules (record {
          begins = begins;
          are_names = h.are_names;
          has_script = is.has_script;
          read = subst (λ (fs : List NamedFile). HasReadFiles (kind_by command.script) h.opened fs
              (outside_of old sinks) (outside_of new after)) (sym is.are) (files_read h.taken);
        }) (inr is.ends)
        (refusal_meets status TooLong (too_long_line LONGEST_FILE name)
        (outcome_of_inputs command is.script is.modules) sinks after is.is e line)

    pub answers_bad : (number : ℕ)
        → HasStoppedBad (kind_by command.script) (inputs_of command) number old new
        → status ≡ BadScript → Refuses (bad_script_line number) sinks after
        → IsAnswer command status old new sinks after
    answers_bad number h e line =
        let short = h.short in
        let says = from_short h.file (Err h.found) (grind (arith, nat_tests, short)) h.bad in
        from_files (h.file.name ∷ []) h.left (Some h.file) [] (record {
          begins = begins;
          are_names = h.are_names;
          has_script = script_named command.script h.as_script;
          read = files_read h.taken;
        }) (inr (inl (ap is_err says)))
        (refusal_meets status BadScript (bad_script_line number)
        (outcome_of_inputs command (Some h.file) []) sinks after
        (ap (λ r. outcome_behind command r []) says
        ∙ ap (λ n. refusal BadScript (bad_script_line n)) h.is_number) e line)

    pub answers_inputs : (script : Script) (modules : List NamedFile)
        → HasInputs command script modules old new → All IsShort modules
        → Meets (outcome_of_modules command script modules) status sinks after
        → IsAnswer command status old new sinks after
    answers_inputs script modules h short meets =
        from_files (inputs_of command) [] h.file modules (record {
          begins = begins;
          are_names = sym (append-nil (inputs_of command));
          has_script = h.has_file;
          read = files_read h.taken;
        }) (inl refl)
        (subst (λ (o : Outcome). Meets o status sinks after)
        (sym (ap (λ r. outcome_behind command r modules) (script_says h.file script h.says)
        ∙ ap (λ (o : Option NamedFile). outcome_by command o script modules)
        (none_too_long modules (files_short modules short)))) meets)

  -- where it goes on from a snapshot
  module _ (name : List ℕ) (named : command.restore ≡ Some name) where
    pub restores_unread : HasStoppedUnread AsSnapshot (name ∷ []) name old new
        → status ≡ CannotRead → Refuses (cannot_read_line name) sinks after
        → IsAnswer command status old new sinks after
    restores_unread = unread_by _ _ (reads_snapshot command name named) name

    pub restores_short : HasStoppedShort AsSnapshot (name ∷ []) old new
        → status ≡ NoMemory → after ≡ sinks → IsAnswer command status old new sinks after
    restores_short = short_by _ _ (reads_snapshot command name named)

    -- a file that was read, by the outcome that it has
    file_by : (bytes : List ℕ) → HasTakenFile name bytes old new
        → Meets (outcome_of_snapshot command (record { name = name; file = bytes })) status
        sinks after
        → IsAnswer command status old new sinks after
    file_by bytes h meets = from_snapshot (record { name = name; file = bytes }) (record {
      is_named = named;
      is_file = h.is_file;
      bytes = h.bytes_are;
      read = h.read;
      no_fault = h.no_fault;
    }) meets

    pub restores_too_long : HasLongFile name old new → status ≡ TooLong
        → Refuses (too_long_line (longest AsSnapshot) name) sinks after
        → IsAnswer command status old new sinks after
    restores_too_long h e line =
        let long = h.long in
        file_by h.bytes h.taken (refusal_meets status TooLong _ _ sinks after
        (from_long_snapshot command (record { name = name; file = h.bytes })
        (grind (arith, nat_tests, long))) e line)

    pub restores_bad : HasBadFile name old new → status ≡ BadSnapshot
        → Refuses (bad_snapshot_line name) sinks after
        → IsAnswer command status old new sinks after
    restores_bad h e line =
        let short = h.file.short in
        file_by h.bytes h.file.taken (refusal_meets status BadSnapshot _ _ sinks after
        (from_short_snapshot command (record { name = name; file = h.bytes }) None
        (grind (arith, nat_tests, short)) h.bad) e line)

    pub restores_run : (m : MachineState) → HasRestored name m old new
        → Comes (outcome_from command (booted (iop_in m))) status sinks after
        → IsAnswer command status old new sinks after
    restores_run m h comes =
        file_by h.bytes h.file.taken (subst (λ (o : Outcome). Meets o status sinks after)
        (sym (goes_on_from command (record { name = name; file = h.bytes }) m h.file.short h.holds))
        (inr comes))
