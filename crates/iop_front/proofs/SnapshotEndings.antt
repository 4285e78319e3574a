-- The ways in which the file of a snapshot is answered, and what each shows.
use Rattle.std.proofs.Common.{◌≡◌, ◌≢◌, ◌⊎◌, ℕ, ◌+◌, ◌<◌, ◌≤◌, nat_lt, Bool, true, false, Option, Some, None, IfSome, IsSome, is_some, List, [], ◌∷◌, Contains, length, take, refl, ap, sym, ◌∙◌, subst, arith, inl, inr}
use Rattle.std.proofs.lemmas.Bool.Decides.{nat_tests}
use Rattle.std.proofs.lemmas.List.{length-take, take_all}
use Rattle.std.proofs.lemmas.List.Elements.{All-contains, Contains-push}
use Rattle.iop_base.specs.Counts.{HasCause}
use Rattle.iop_machine.specs.Modules.{NamedFile}
use Rattle.iop_machine.specs.Restoring.{iop_in, machine_in}
use Rattle.iop_machine.specs.Stepping.{run_of}
use Rattle.iop_machine.specs.World.{booted}
use Rattle.iop_options.specs.Commands.{Command}
use Rattle.iop_ports.specs.Files.{FilesTold}
use Rattle.iop_saved_machine.specs.Back.{MachineState}
use Rattle.iop_front.specs.Answers.{Outside, AreGoodFiles, FilesRead, HasReadSnapshot, HasRun, IsBadSnapshot, IsNameAsked, IsSnapshotOf, IsTooLong}
use Rattle.iop_front.specs.Keeping.{Written}
use Rattle.iop_front.specs.Named.{AsSnapshot, files_of, first_kind, longest}
use Rattle.iop_front.specs.Outcome.{Comes, Meets, Outcome, Refuses, bad_snapshot_line, named_file, outcome_from_files, outcome_named, outcome_of_snapshot, outcome_restored, too_long_line}
use Rattle.iop_front.specs.Reading.{file_named}
use Rattle.iop_front.specs.Statuses.{status_code, IsRunCode}
use Rattle.iop_front.specs.declared.status.Status.{Status}
use Rattle.iop_front.specs.declared.status.Status.TheVariants.{BadSnapshot, TooLong, NoMemory}
use Rattle.iop_front.proofs.CommandFiles.{ReadsFiles, reads_snapshot}
use Rattle.iop_front.proofs.Endings.{ShowsCode, came_refused, ran_shows, refused_shows, runs_or_short, without_memory_shows}
use Rattle.iop_front.proofs.OpeningLemmas.{name_asked}
use Rattle.iop_front.proofs.OutcomeLemmas.{from_long_snapshot, from_short_snapshot}
use Rattle.iop_front.proofs.RunEndings.{ShowsRun, run_shows}

-- it is too long, or holds no machine; or the run from its machine
data Ended (command : Command) (named : NamedFile) (status : Status) (old new : Written)
    : Type 0 where
  without_memory : status ≡ NoMemory → new ≡ old → Ended command named status old new
  as_too_long : longest AsSnapshot < length named.file → status ≡ TooLong
      → Refuses (too_long_line (longest AsSnapshot) named.name) old new
      → Ended command named status old new
  as_bad : length named.file ≤ longest AsSnapshot → machine_in named.file ≡ None
      → status ≡ BadSnapshot → Refuses (bad_snapshot_line named.name) old new
      → Ended command named status old new
  by_run : ShowsRun command.save status old new → Ended command named status old new

module _ (command : Command) (named : NamedFile) (status : Status) (old new : Written) where
  abbrev IsEnded : Type 0
  IsEnded = Ended command named status old new

  -- of a file that is not too long, by what it holds
  ended_short : (m : Option MachineState) → length named.file ≤ longest AsSnapshot
      → machine_in named.file ≡ m
      → Comes (outcome_restored command named.name m) status old new → IsEnded
  ended_short None short bad h =
      let came = came_refused h in as_bad short bad came.status_is came.line_is
  ended_short (Some m) short is h =
      by_run (run_shows command.dump command.save (run_of command.budget (booted (iop_in m))) h)

  -- by whether it is too long
  ended_by : (is_long : Bool) → nat_lt (longest AsSnapshot) (length named.file) ≡ is_long
      → Comes (outcome_of_snapshot command named) status old new → IsEnded
  ended_by true e h =
      let came = came_refused (subst (λ (o : Outcome). Comes o status old new)
      (from_long_snapshot command named e) h) in
      as_too_long (grind (arith, nat_tests, e)) came.status_is came.line_is
  ended_by false e h =
      ended_short (machine_in named.file) (grind (arith, nat_tests, e)) refl
      (subst (λ (o : Outcome). Comes o status old new)
      (from_short_snapshot command named (machine_in named.file) e refl) h)

  ended : Meets (outcome_of_snapshot command named) status old new → IsEnded
  ended h = elim h [
    | inl none ↦ without_memory none.0 none.1
    | inr came ↦ ended_by (nat_lt (longest AsSnapshot) (length named.file)) refl came
  ]

-- what the answer shows
record Shows (command : Command) (named : NamedFile) (status : Status) (old new : Written)
    : Type 0 where
  code : ShowsCode command.save (status_code status) old new
  no_script : status_code status ≢ 21
  -- 23 and 25, and their lines
  long : status_code status ≡ 23 → longest AsSnapshot < length named.file
  long_line : status_code status ≡ 23
      → Refuses (too_long_line (longest AsSnapshot) named.name) old new
  short : status_code status ≡ 25 → length named.file ≤ longest AsSnapshot
  bad : status_code status ≡ 25 → machine_in named.file ≡ None
  bad_line : status_code status ≡ 25 → Refuses (bad_snapshot_line named.name) old new

shows : {command : Command} {named : NamedFile} {status : Status} {old new : Written}
    → Ended command named status old new → Shows command named status old new
shows {command = command} {status = status} {old = old} {new = new} (without_memory e h) =
    let code : status_code status ≡ 30 = ap status_code e in
    record {
      code = without_memory_shows command.save (status_code status) old new code h;
      no_script = λ s. omega (arith, s, code);
      long = λ s. absurd (omega (arith, s, code));
      long_line = λ s. absurd (omega (arith, s, code));
      short = λ s. absurd (omega (arith, s, code));
      bad = λ s. absurd (omega (arith, s, code));
      bad_line = λ s. absurd (omega (arith, s, code));
    }
shows {command = command} {status = status} {old = old} {new = new} (as_too_long is_long e h) =
    let code : status_code status ≡ 23 = ap status_code e in
    record {
      code = refused_shows command.save (status_code status) _ old new (inr (inl code)) h;
      no_script = λ s. omega (arith, s, code);
      long = λ s. is_long;
      long_line = λ s. h;
      short = λ s. absurd (omega (arith, s, code));
      bad = λ s. absurd (omega (arith, s, code));
      bad_line = λ s. absurd (omega (arith, s, code));
    }
shows {command = command} {status = status} {old = old} {new = new} (as_bad fits is_bad e h) =
    let code : status_code status ≡ 25 = ap status_code e in
    record {
      code = refused_shows command.save (status_code status) _ old new (inr (inr code)) h;
      no_script = λ s. omega (arith, s, code);
      long = λ s. absurd (omega (arith, s, code));
      long_line = λ s. absurd (omega (arith, s, code));
      short = λ s. fits;
      bad = λ s. is_bad;
      bad_line = λ s. h;
    }
shows (by_run run) =
    let ran = run.ran in
    record {
      code = ran_shows run;
      no_script = λ s. absurd (grind (arith, ran, s));
      long = λ s. absurd (grind (arith, ran, s));
      long_line = λ s. absurd (grind (arith, ran, s));
      short = λ s. absurd (grind (arith, ran, s));
      bad = λ s. absurd (grind (arith, ran, s));
      bad_line = λ s. absurd (grind (arith, ran, s));
    }

abbrev snapshot_limit : ℕ
snapshot_limit = longest AsSnapshot + 1

-- where the first bytes of a file are not too many, they are all of it
whole_file : (bytes file : List ℕ) → bytes ≡ take snapshot_limit file
    → length bytes ≤ longest AsSnapshot → bytes ≡ file
whole_file bytes file is short =
    let size = ap length is in
    is ∙ take_all snapshot_limit file (omega (arith, size, short, length-take snapshot_limit file))

-- where they are, it is too long
long_file : (bytes file : List ℕ) → bytes ≡ take snapshot_limit file
    → longest AsSnapshot < length bytes → longest AsSnapshot < length file
long_file bytes file is long =
    let size = ap length is in omega (arith, size, long, length-take snapshot_limit file)

module _ (command : Command) (named : NamedFile) (told : FilesTold)
    (is : IsSnapshotOf named told) where
  file : List ℕ
  file = file_named told named.name

  -- so what stands past them does not matter
  same_by : (is_long : Bool) → nat_lt (longest AsSnapshot) (length named.file) ≡ is_long
      → outcome_of_snapshot command named
      ≡ outcome_of_snapshot command (named_file told named.name)
  same_by true e =
      let long = long_file named.file (file_named told named.name) is
      (grind (arith, nat_tests, e)) in
      from_long_snapshot command named e
      ∙ sym (from_long_snapshot command (named_file told named.name)
      (grind (arith, nat_tests, long)))
  same_by false e =
      ap (λ bytes. outcome_of_snapshot command (record { name = named.name; file = bytes }))
      (whole_file named.file (file_named told named.name) is (grind (arith, nat_tests, e)))

  pub same_outcome : outcome_of_snapshot command named
      ≡ outcome_of_snapshot command (named_file told named.name)
  same_outcome = same_by (nat_lt (longest AsSnapshot) (length named.file)) refl

-- a command that went on from a snapshot's file, and had its outcome
module _ {command : Command} {named : NamedFile} {status : Status} {old new : Outside}
    (was : HasReadSnapshot command named old new)
    (h : Meets (outcome_of_snapshot command named) status old.sinks new.sinks) where
  answered : Shows command named status old.sinks new.sinks
  answered = shows (ended command named status old.sinks new.sinks h)

  -- what its status shows
  pub shown : ShowsCode command.save (status_code status) old.sinks new.sinks
  shown = answered.code

  pub no_script : status_code status ≢ 21
  no_script = answered.no_script

  reads : ReadsFiles command AsSnapshot (named.name ∷ [])
  reads = reads_snapshot command named.name was.is_named

  pub read_first : FilesRead (first_kind command) (named.name ∷ []) old.faults old.told new.told
  read_first =
      subst (λ kind. FilesRead kind (named.name ∷ []) old.faults old.told new.told)
      (sym reads.kind_is) was.read

  pub are_first : files_of command ≡ named.name ∷ []
  are_first = reads.names_are

  pub read_all : FilesRead (first_kind command) (files_of command) old.faults old.told new.told
  read_all =
      subst (λ names. FilesRead (first_kind command) names old.faults old.told new.told)
      (sym are_first) read_first

  -- what was written is the outcome of the file
  pub has_outcome : (told : FilesTold) → old.told ≡ Some told
      → Meets (outcome_named told (Some command)) status old.sinks new.sinks
  has_outcome told is =
      subst (λ (o : Outcome). Meets o status old.sinks new.sinks)
      (same_outcome command named told (subst (λ o. IfSome o (IsSnapshotOf named)) is was.is_file)
      ∙ sym (ap (outcome_from_files told command) was.is_named)) h

  pub has_run : HasRun command command.restore (status_code status) old new
  has_run =
      subst (λ r. HasRun command r (status_code status) old new) (sym was.is_named)
      (record {
        file = named.file;
        bytes = was.bytes;
        is_file = was.is_file;
        outcome = (status, refl, h);
      })

  asked : IfSome new.told (IsNameAsked named.name old.faults)
  asked = name_asked old.faults AsSnapshot [] named.name old.told new.told was.read

  -- what holds of the file where the files tell
  of_file : (holds : List ℕ → Type 0) → ((bytes : List ℕ)
      → named.file ≡ take snapshot_limit bytes → holds bytes)
      → IfSome old.told (λ files. holds (file_named files named.name))
  of_file holds each = told_by old.told was.is_file
    where
      told_by : (told : Option FilesTold) → IfSome told (IsSnapshotOf named)
          → IfSome told (λ files. holds (file_named files named.name))
      told_by None is = tt
      told_by (Some files) is = each (file_named files named.name) is

  -- 23, and its line
  pub too_long : status_code status ≡ 23
      → IsTooLong (longest (first_kind command)) (files_of command) old new
  too_long s =
      let most : longest (first_kind command) ≡ longest AsSnapshot = ap longest reads.kind_is in
      record {
        name = named.name;
        named = subst (λ (ns : List (List ℕ)). Contains ns named.name) (sym are_first)
            (Contains-push [] named.name);
        line = subst (λ n. Refuses (too_long_line n named.name) old.sinks new.sinks) (sym most)
            (answered.long_line s);
        asked = asked;
        long = subst
            (λ n. IfSome old.told (λ files. n < length (file_named files named.name)))
            (sym most)
            (of_file (λ bytes. longest AsSnapshot < length bytes)
            (λ bytes is. long_file named.file bytes is (answered.long s)));
      }

  -- 25, and its line
  pub bad_snapshot : status_code status ≡ 25 → IsBadSnapshot command old new
  bad_snapshot s = record {
    name = named.name;
    named = was.is_named;
    line = answered.bad_line s;
    read = was.read;
    asked = asked;
    file = named.file;
    bytes = was.bytes;
    short = answered.short s;
    bad = answered.bad s;
    is_file = of_file (λ bytes. bytes ≡ named.file)
        (λ bytes is. sym (whole_file named.file bytes is (answered.short s)));
  }

  module _ (told : FilesTold) (has : old.told ≡ Some told) (good : AreGoodFiles command told) where
    not_too_long : status_code status ≡ 23 → ⊥
    not_too_long e =
        let is = too_long e in
        let most = longest (first_kind command) in
        let long = subst (λ o. IfSome o (λ files. most < length (file_named files is.name)))
        has is.long in
        let short = All-contains (λ name. length (file_named told name) ≤ most)
        (files_of command) is.name good.short is.named in
        omega (arith, long, short)

    not_bad : status_code status ≡ 25 → ⊥
    not_bad e =
        let is = bad_snapshot e in
        let file = subst
        (λ o. IfSome o (λ files. file_named files is.name ≡ is.file)) has is.is_file in
        let some = subst
        (λ o. IfSome o (λ name. IsSome (machine_in (file_named told name)))) is.named
        good.snapshot in
        let found : is_some (machine_in (file_named told is.name)) ≡ true = some in
        let bad : machine_in (file_named told is.name) ≡ None = ap machine_in file ∙ is.bad in
        absurd (cc)

    -- where no write failed, the command ran
    pub completes : ¬ HasCause old.sinks.output.trace_faults new.sinks.output.trace_faults
        → ¬ HasCause old.sinks.output.console_faults new.sinks.output.console_faults
        → ¬ HasCause old.sinks.keep.faults new.sinks.keep.faults
        → IsRunCode (status_code status) ⊎ (status_code status ≡ 30)
    completes traced printed saved =
        runs_or_short shown no_script not_too_long not_bad traced printed saved
