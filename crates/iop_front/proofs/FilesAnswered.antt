-- What each answer shows where files of a command whose run begins were read, all of them or as
-- many as decide it.
use Rattle.std.proofs.Common.{◌≡◌, ◌⊎◌, ℕ, ◌<◌, ◌≤◌, true, false, Option, Some, None, option_to_list, IfSome, is_some, Err, is_ok, List, [], ◌∷◌, ◌++◌, Contains, map, length, take, append-nil, refl, ap, sym, ◌∙◌, subst, arith, inl, inr}
use Rattle.std.proofs.lemmas.List.Elements.{All-contains, Contains-append_left}
use Rattle.std.proofs.lemmas.Bool.Decides.{nat_tests}
use Rattle.iop_base.specs.Counts.{HasCause}
use Rattle.iop_machine.specs.Modules.{NamedFile}
use Rattle.iop_modload.specs.declared.limits.TheConstants.{LONGEST_FILE}
use Rattle.iop_options.specs.Commands.{Command}
use Rattle.iop_ports.specs.Files.{FilesTold}
use Rattle.iop_script.specs.Reading.{BadLine, script_of}
use Rattle.iop_front.specs.Answers.{Outside, AreFilesOf, AreGoodFiles, EndsReading, FilesRead, HasReadInputs, HasBegun, HasRun, HasBadScript, IsTooLong, IsNameAsked}
use Rattle.iop_front.specs.Named.{first_kind, files_of, inputs_of, AsScript, kind_by, longest}
use Rattle.iop_front.specs.Outcome.{Meets, Refuses, outcome_of_inputs, OpensInOrder, none, more, read_limit, too_long_line}
use Rattle.iop_front.specs.Reading.{file_named}
use Rattle.iop_front.specs.Statuses.{status_code, IsRunCode, IsRanCode}
use Rattle.iop_front.specs.declared.status.Status.{Status}
use Rattle.iop_front.proofs.CommandFiles.{ReadsFiles, longest_input, reads_inputs}
use Rattle.iop_front.proofs.Endings.{IsRun, Shows, ended, runs_or_short, shows, IsBadScript}
use Rattle.iop_front.proofs.OpeningLemmas.{is_named, long_read, names_of, name_asked, short_whole, whole_front}

-- behind a bad script no file was opened
alone : {faults : ℕ} {name : List ℕ} {names : List (List ℕ)} {old new : FilesTold} (found : BadLine)
    → OpensInOrder faults AsScript (name ∷ names) old new
    → script_of (file_named old name) ≡ Err found
    → OpensInOrder faults AsScript (name ∷ []) old new
alone found (more first on none) bad = more first tt none
alone found (more first on (more second later rest)) bad =
    let never : true ≡ false = sym on.1 ∙ ap is_ok bad in absurd (cc)

-- the script's file, where the files tell and where they do not
record IsBadIn (name : List ℕ) (found : BadLine) (faults : ℕ) (old new : Option FilesTold)
    : Type 0 where
  read : FilesRead AsScript (name ∷ []) faults old new
  bad : IfSome old (λ files. script_of (file_named files name) ≡ Err found)
  short : IfSome old (λ files. length (file_named files name) ≤ LONGEST_FILE)

-- of the first file that was read
bad_in : (named : NamedFile) (found : BadLine) (names : List (List ℕ)) (files : List NamedFile)
    (faults : ℕ) (old new : Option FilesTold) → length named.file ≤ LONGEST_FILE
    → script_of named.file ≡ Err found → AreFilesOf (named.name ∷ names) (named ∷ files) old
    → FilesRead AsScript (named.name ∷ names) faults old new
    → IsBadIn named.name found faults old new
bad_in named found names files faults None new short bad are read =
    record { read = read; bad = tt; short = tt }
bad_in named found names files faults (Some told) None short bad are read = absurd read
bad_in named found names files faults (Some told) (Some after) short bad are read =
    let file = file_named told named.name in
    let front : named ≡ record { name = named.name; file = take read_limit file } = cc in
    let same : named.file ≡ take read_limit file = ap (λ (f : NamedFile). f.file) front in
    let fits = subst (λ t. length t ≤ LONGEST_FILE) same short in
    let whole : named.file ≡ file = same ∙ whole_front file fits in
    let is : script_of file ≡ Err found = sym (ap script_of whole) ∙ bad in
    record { read = alone found read is; bad = is; short = short_whole file fits }

-- what 21 tells
pub record IsBadOf (command : Command) (name : List ℕ) (found : BadLine) (faults : ℕ)
    (old new : Option FilesTold) : Type 0 where
  pub named : command.script ≡ Some name
  pub read : FilesRead AsScript (name ∷ []) faults old new
  pub asked : IfSome new (IsNameAsked name faults)
  pub bad : IfSome old (λ files. script_of (file_named files name) ≡ Err found)
  pub short : IfSome old (λ files. length (file_named files name) ≤ LONGEST_FILE)

-- the first of the names is the script's
first_name : (script : Option (List ℕ)) (modules : List (List ℕ)) (name : List ℕ)
    (names : List (List ℕ)) → is_some script ≡ true
    → option_to_list script ++ modules ≡ name ∷ names → script ≡ Some name
first_name None modules name names is e = absurd (cc)
first_name (Some first) modules name names is e = cc

-- where a script is named, the first file is read as one
kind_named : (script : Option (List ℕ)) → is_some script ≡ true → kind_by script ≡ AsScript
kind_named None e = absurd (cc)
kind_named (Some name) e = refl

-- of the first file of a command
bad_first : (command : Command) (names left : List (List ℕ)) (files : List NamedFile)
    (named : NamedFile) (found : BadLine) (faults : ℕ) (old new : Option FilesTold)
    → length named.file ≤ LONGEST_FILE → script_of named.file ≡ Err found
    → inputs_of command ≡ names ++ left → is_some command.script ≡ true
    → AreFilesOf names (named ∷ files) old → FilesRead AsScript names faults old new
    → IsBadOf command named.name found faults old new
bad_first command names left files named found faults old new short bad are_names is are read =
    let same : named.name ∷ map (λ (f : NamedFile). f.name) files ≡ names =
    names_of names (named ∷ files) old are in
    let rest = map (λ (f : NamedFile). f.name) files in
    let h = bad_in named found rest files faults old new short bad
    (subst (λ (ns : List (List ℕ)). AreFilesOf ns (named ∷ files) old) (sym same) are)
    (subst (λ (ns : List (List ℕ)). FilesRead AsScript ns faults old new) (sym same) read) in
    record {
      named = first_name command.script command.modules named.name (rest ++ left) is
          (are_names ∙ ap (λ ns. ns ++ left) (sym same));
      read = h.read;
      asked = name_asked faults AsScript [] named.name old new h.read;
      bad = h.bad;
      short = h.short;
    }

-- of the script of a command
bad_read : (command : Command) (names left : List (List ℕ)) (script : Option NamedFile)
    (files : List NamedFile) (named : NamedFile) (found : BadLine) (faults : ℕ)
    (old new : Option FilesTold)
    → IsBadScript script named found → inputs_of command ≡ names ++ left
    → is_some script ≡ is_some command.script
    → AreFilesOf names (option_to_list script ++ files) old
    → FilesRead (kind_by command.script) names faults old new
    → IsBadOf command named.name found faults old new
bad_read command names left script files named found faults old new bad are_names is are read =
    let test = bad.short in
    let has : is_some command.script ≡ true = sym is ∙ ap is_some bad.is_named in
    bad_first command names left files named found faults old new
    (grind (arith, nat_tests, test)) bad.bad are_names has
    (subst (λ (s : Option NamedFile). AreFilesOf names (option_to_list s ++ files) old)
    bad.is_named are)
    (subst (λ kind. FilesRead kind names faults old new) (kind_named command.script has) read)

-- nothing is left where the script is good and no module is too long
none_left : (script : Option NamedFile) (files : List NamedFile) (left : List (List ℕ))
    → EndsReading script files left → IsRun script files → left ≡ []
none_left script files left ends run =
    let good = run.good in
    let fit = run.fit in
    elim ends [
      | inl e ↦ e
      | inr other ↦ elim other [ inl bad ↦ absurd (cc) | inr some ↦ absurd (cc) ]
    ]

-- so all were opened
all_opened : (command : Command) (opened left : List (List ℕ)) (script : Option NamedFile)
    (files : List NamedFile) → inputs_of command ≡ opened ++ left → EndsReading script files left
    → IsRun script files → opened ≡ inputs_of command
all_opened command opened left script files are ends run =
    sym (append-nil opened)
    ∙ ap (λ t. opened ++ t) (sym (none_left script files left ends run)) ∙ sym are

-- a command whose inputs were read so, and which had their outcome
module _ {command : Command} {names left : List (List ℕ)} {script : Option NamedFile}
    {files : List NamedFile} {status : Status} {old new : Outside}
    (was : HasReadInputs command names left script files old new)
    (ends : EndsReading script files left)
    (h : Meets (outcome_of_inputs command script files) status old.sinks new.sinks) where
  -- what its status shows
  pub shown : Shows command.save script files status old.sinks new.sinks
  shown = shows (ended command script files status old.sinks new.sinks h)

  -- before a run all names were opened
  opened : IsRanCode (status_code status) → names ≡ inputs_of command
  opened ran =
      all_opened command names left script files was.are_names ends (shown.ran ran)

  reads : ReadsFiles command (kind_by command.script) (inputs_of command)
  reads = reads_inputs command was.begins

  -- files that were read are those of the command
  read_as : (ns : List (List ℕ))
      → FilesRead (kind_by command.script) ns old.faults old.told new.told
      → FilesRead (first_kind command) ns old.faults old.told new.told
  read_as ns =
      subst (λ kind. FilesRead kind ns old.faults old.told new.told) (sym reads.kind_is)

  pub read_first : FilesRead (first_kind command) names old.faults old.told new.told
  read_first = read_as names was.read.read

  pub are_first : files_of command ≡ names ++ left
  are_first = reads.names_are ∙ was.are_names

  -- and all of them before a run
  pub read_all : IsRanCode (status_code status)
      → FilesRead (first_kind command) (files_of command) old.faults old.told new.told
  read_all ran = subst
      (λ (ns : List (List ℕ)). FilesRead (first_kind command) ns old.faults old.told new.told)
      (opened ran ∙ sym reads.names_are) read_first

  -- and what was written is the outcome of these files
  has_begun : IsRanCode (status_code status) → HasBegun command (status_code status) old new
  has_begun ran = record {
    script = script;
    modules = files;
    has_script = was.has_script;
    are_files = subst
        (λ (ns : List (List ℕ)). AreFilesOf ns (option_to_list script ++ files) old.told)
        (opened ran) was.read.are_files;
    outcome = (status, refl, h);
  }

  pub has_run : IsRanCode (status_code status)
      → HasRun command command.restore (status_code status) old new
  has_run ran =
      subst (λ r. HasRun command r (status_code status) old new) (sym was.begins) (has_begun ran)

  -- 21, and its line
  pub bad_script : status_code status ≡ 21 → HasBadScript command old new
  bad_script s =
      let is = shown.bad s in
      let bad = bad_read command names left script files is.named is.found old.faults old.told
      new.told is.is_bad was.are_names was.has_script was.read.are_files was.read.read in
      record {
        name = is.named.name;
        named = bad.named;
        found = is.found;
        line = is.line;
        read = bad.read;
        asked = bad.asked;
        bad = bad.bad;
        short = bad.short;
      }

  -- 23, and its line
  pub too_long : status_code status ≡ 23
      → IsTooLong (longest (first_kind command)) (files_of command) old new
  too_long s =
      let most : longest (first_kind command) ≡ LONGEST_FILE =
      ap longest reads.kind_is ∙ longest_input command.script in
      let all = option_to_list script ++ files in
      let is = shown.too_long s in
      let last = long_read (kind_by command.script) names all old.faults old.told new.told is.long
      was.read.are_files was.read.read is.is_first in
      let named = subst (λ (ns : List (List ℕ)). Contains ns is.long.name)
      (names_of names all old.told was.read.are_files) (is_named all is.long is.is_first) in
      record {
        name = is.long.name;
        named = subst (λ (ns : List (List ℕ)). Contains ns is.long.name) (sym are_first)
            (Contains-append_left names left is.long.name named);
        line = subst (λ n. Refuses (too_long_line n is.long.name) old.sinks new.sinks) (sym most)
            is.line;
        asked = last.asked;
        long = subst
            (λ n. IfSome old.told (λ files. n < length (file_named files is.long.name)))
            (sym most) last.long;
      }

  module _ (told : FilesTold) (has : old.told ≡ Some told) (good : AreGoodFiles command told) where
    -- a good script has no bad line
    not_bad_script : status_code status ≡ 21 → ⊥
    not_bad_script e =
        let is = bad_script e in
        let bad = subst
        (λ o. IfSome o (λ files. script_of (file_named files is.name) ≡ Err is.found))
        has is.bad in
        let ok = subst (λ o. IfSome o (λ name. is_ok (script_of (file_named told name)) ≡ true))
        is.named good.script in
        let never : false ≡ true = sym (ap is_ok bad) ∙ ok in cc

    -- and no short file is too long
    not_too_long : status_code status ≡ 23 → ⊥
    not_too_long e =
        let is = too_long e in
        let most = longest (first_kind command) in
        let long = subst (λ o. IfSome o (λ files. most < length (file_named files is.name)))
        has is.long in
        let short = All-contains (λ name. length (file_named told name) ≤ most)
        (files_of command) is.name good.short is.named in
        omega (arith, long, short)

    -- where no write failed either, the command ran
    pub completes : ¬ HasCause old.sinks.output.trace_faults new.sinks.output.trace_faults
        → ¬ HasCause old.sinks.output.console_faults new.sinks.output.console_faults
        → ¬ HasCause old.sinks.keep.faults new.sinks.keep.faults
        → IsRunCode (status_code status) ⊎ (status_code status ≡ 30)
    completes traced printed saved =
        runs_or_short shown.code not_bad_script not_too_long shown.no_snapshot traced printed saved
