-- The ways in which files that were read are answered where a run begins, and what each shows.
use Rattle.std.proofs.Common.{◌≡◌, ◌≢◌, ◌⊎◌, ℕ, nat_lt, Bool, true, false, cond, Option, Some, None, option_to_list, Result, Ok, Err, is_err, List, ◌++◌, length, refl, ap, ◌∙◌, arith, inl, inr}
use Rattle.iop_base.specs.Counts.{HasCause}
use Rattle.iop_machine.specs.Modules.{NamedFile, none_loaded}
use Rattle.iop_machine.specs.Stepping.{run_of}
use Rattle.iop_machine.specs.World.{beginning}
use Rattle.iop_modload.specs.declared.limits.TheConstants.{LONGEST_FILE}
use Rattle.iop_options.specs.Commands.{Command}
use Rattle.iop_options.specs.Values.{ram_bytes}
use Rattle.iop_script.specs.Reading.{BadLine, empty_script, script_of}
use Rattle.iop_script.specs.Scripts.{Script}
use Rattle.iop_front.specs.declared.status.Status.{Status}
use Rattle.iop_front.specs.declared.status.Status.TheVariants.{BadScript, TooLong, NoMemory}
use Rattle.iop_front.specs.Keeping.{Written}
use Rattle.iop_front.specs.Outcome.{Outcome, Comes, Meets, Refuses, all_written, cut_short, not_kept, refusal, bad_script_line, too_long_line, first_too_long, modules_to_load, script_read, script_by, outcome_behind, outcome_by, outcome_of_inputs}
use Rattle.iop_front.specs.Statuses.{status_code, IsRunCode, IsRanCode, IsRefusalCode, IsExitCode, IsCutCode}
use Rattle.iop_front.proofs.SendingLemmas.{ConsoleSame, refusal_console}
use Rattle.iop_front.proofs.OutcomeLemmas.{from_short}
use Rattle.iop_front.proofs.RunEndings.{ShowsKeep, ShowsRun, keep_same, run_shows}

-- the script's file is not too long, and has a bad line
pub record IsBadScript (script : Option NamedFile) (named : NamedFile) (found : BadLine)
    : Type 0 where
  pub is_named : script ≡ Some named
  pub short : nat_lt LONGEST_FILE (length named.file) ≡ false
  pub bad : script_of named.file ≡ Err found

-- the first file of all that is too long; a script's bad line, where its file is not too long; or
-- the run, where no file is too long and the script is good
pub data Ended (save : Option (List ℕ)) (script : Option NamedFile) (files : List NamedFile)
    (status : Status) (old new : Written) : Type 0 where
  without_memory : status ≡ NoMemory → new ≡ old → Ended save script files status old new
  as_too_long : (long : NamedFile) → first_too_long (option_to_list script ++ files) ≡ Some long
      → status ≡ TooLong → Refuses (too_long_line LONGEST_FILE long.name) old new
      → Ended save script files status old new
  as_bad_script : (named : NamedFile) (found : BadLine) → IsBadScript script named found
      → status ≡ BadScript → Refuses (bad_script_line found.number) old new
      → Ended save script files status old new
  by_run : first_too_long files ≡ None → is_err (script_by script) ≡ false
      → ShowsRun save status old new → Ended save script files status old new

-- a refusal that came has its status, whether or not its write failed
pub record CameRefused (refused : Status) (line : List ℕ) (status : Status) (old new : Written)
    : Type 0 where
  pub status_is : status ≡ refused
  pub line_is : Refuses line old new

pub came_refused : {refused : Status} {line : List ℕ} {status : Status} {old new : Written}
    → Comes (refusal refused line) status old new → CameRefused refused line status old new
came_refused (all_written e leaves keeps) = record {
  status_is = e;
  line_is = record { failed = false; leaves = leaves; keep = keeps.1 };
}
came_refused (cut_short e short same) = record {
  status_is = e;
  line_is = record { failed = true; leaves = short; keep = same };
}
came_refused (not_kept e leaves keeps) = let never = keeps.0 in absurd (cc)

module _ (command : Command) (files : List NamedFile) (status : Status) (old new : Written) where
  -- the outcome came
  abbrev Came : Outcome → Type 0
  Came outcome = Comes outcome status old new

  abbrev EndedBy : Option NamedFile → Type 0
  EndedBy script = Ended command.save script files status old new

  -- of the modules, if the script is good: of all files the first that is too long is one of them
  ended_modules : (script : Option NamedFile) (says : Script) (found : Option NamedFile)
      → first_too_long files ≡ found
      → first_too_long (option_to_list script ++ files) ≡ first_too_long files
      → is_err (script_by script) ≡ false → Came (outcome_by command found says files)
      → EndedBy script
  ended_modules script says (Some long) is same good h =
      let came = came_refused h in as_too_long long (same ∙ is) came.status_is came.line_is
  ended_modules script says None is same good h =
      let run = run_of command.budget (beginning (ram_bytes command.ram)
      (none_loaded says (modules_to_load command.generate files)) says.events) in
      by_run is good (run_shows command.dump command.save run h)

  -- by what a script's file that is not too long reads as
  ended_script : (named : NamedFile) (read : Result Script BadLine)
      → nat_lt LONGEST_FILE (length named.file) ≡ false → script_of named.file ≡ read
      → Came (outcome_behind command (script_read read) files) → EndedBy (Some named)
  ended_script named (Ok says) short is h =
      ended_modules (Some named) says (first_too_long files) refl
      (ap (λ b. cond b (Some named) (first_too_long files)) short)
      (ap is_err (from_short named (Ok says) short is)) h
  ended_script named (Err found) short is h =
      let came = came_refused h in
      as_bad_script named found (record { is_named = refl; short = short; bad = is })
      came.status_is came.line_is

  -- by whether it is too long
  ended_file : (named : NamedFile) (is_long : Bool)
      → nat_lt LONGEST_FILE (length named.file) ≡ is_long
      → Came (outcome_behind command (cond is_long
      (Err (refusal TooLong (too_long_line LONGEST_FILE named.name)))
      (script_read (script_of named.file))) files)
      → EndedBy (Some named)
  ended_file named true long h =
      let came = came_refused h in
      as_too_long named (ap (λ b. cond b (Some named) (first_too_long files)) long)
      came.status_is came.line_is
  ended_file named false short h = ended_script named (script_of named.file) short refl h

  -- by whether there is a script
  ended_by : (script : Option NamedFile) → Came (outcome_of_inputs command script files)
      → EndedBy script
  ended_by None h = ended_modules None empty_script (first_too_long files) refl refl refl h
  ended_by (Some named) h = ended_file named (nat_lt LONGEST_FILE (length named.file)) refl h

-- and without memory
pub ended : (command : Command) (script : Option NamedFile) (files : List NamedFile)
    (status : Status) (old new : Written)
    → Meets (outcome_of_inputs command script files) status old new
    → Ended command.save script files status old new
ended command script files status old new h = elim h [
  | inl none ↦ without_memory none.0 none.1
  | inr came ↦ ended_by command files status old new script came
]

-- no module is too long and the script is good
pub record IsRun (script : Option NamedFile) (files : List NamedFile) : Type 0 where
  pub fit : first_too_long files ≡ None
  pub good : is_err (script_by script) ≡ false

-- the first file of all that is too long, and its line
pub record IsLong (script : Option NamedFile) (files : List NamedFile) (old new : Written)
    : Type 0 where
  pub long : NamedFile
  pub is_first : first_too_long (option_to_list script ++ files) ≡ Some long
  pub line : Refuses (too_long_line LONGEST_FILE long.name) old new

-- the script's bad line
pub record IsBad (script : Option NamedFile) (old new : Written) : Type 0 where
  pub named : NamedFile
  pub found : BadLine
  pub is_bad : IsBadScript script named found
  pub line : Refuses (bad_script_line found.number) old new

-- what an answer shows, where this file is to be saved
pub record ShowsCode (save : Option (List ℕ)) (code : ℕ) (old new : Written) : Type 0 where
  -- there is no other status, and 20 and 22 have other causes
  pub exit : IsExitCode code
  pub others : (code ≢ 20) × (code ≢ 22)
  -- 24, and the counts of the sinks
  pub cut : code ≡ 24
      → HasCause old.output.trace_faults new.output.trace_faults
      ⊎ (HasCause old.output.console_faults new.output.console_faults
      ⊎ HasCause old.keep.faults new.keep.faults)
  pub cut_shows : new.output.trace_faults ≢ old.output.trace_faults → IsCutCode code
  pub console_shows : new.output.console_faults ≢ old.output.console_faults → code ≡ 24
  pub keep : ShowsKeep save code old new
  -- a refusal writes nothing to the console, and 30 nothing at all
  pub console : IsRefusalCode code → ConsoleSame old.output new.output
  pub memory : code ≡ 30 → new ≡ old

pub without_memory_shows : (save : Option (List ℕ)) (code : ℕ) (old new : Written) → code ≡ 30
    → new ≡ old → ShowsCode save code old new
without_memory_shows save code old new is h = record {
  exit = inr (inr (inr is));
  others = (λ s. omega (arith, s, is), λ s. omega (arith, s, is));
  cut = λ s. absurd (omega (arith, s, is));
  cut_shows = λ other. absurd (other (ap (λ (s : Written). s.output.trace_faults) h));
  console_shows = λ other. absurd (other (ap (λ (s : Written). s.output.console_faults) h));
  keep = keep_same save code old new (ap (λ (s : Written). s.keep) h);
  console = λ r. record {
    taken = ap (λ (s : Written). s.output.console) h;
    faults = ap (λ (s : Written). s.output.console_faults) h;
  };
  memory = λ s. h;
}

-- a refusal but those of words and of unread files
pub refused_shows : (save : Option (List ℕ)) (code : ℕ) (line : List ℕ) (old new : Written)
    → (code ≡ 21) ⊎ ((code ≡ 23) ⊎ (code ≡ 25)) → Refuses line old new
    → ShowsCode save code old new
refused_shows save code line old new is h =
    let same = refusal_console line old new h in
    let refused : IsRefusalCode code = elim is [
      | inl bad ↦ inr (inl bad)
      | inr other ↦ elim other [
        | inl long ↦ inr (inr (inr (inl long)))
        | inr snapshot ↦ inr (inr (inr (inr snapshot)))
      ]
    ] in
    record {
      exit = inr (inl refused);
      others = (λ s. absurd (grind (arith, is, s)), λ s. absurd (grind (arith, is, s)));
      cut = λ s. absurd (grind (arith, is, s));
      cut_shows = λ other. inr refused;
      console_shows = λ other. absurd (other same.faults);
      keep = keep_same save code old new h.keep;
      console = λ r. same;
      memory = λ s. absurd (grind (arith, is, s));
    }

-- a run
pub ran_shows : {save : Option (List ℕ)} {status : Status} {old new : Written}
    → ShowsRun save status old new → ShowsCode save (status_code status) old new
ran_shows run =
    let ran = run.ran in
    record {
      exit = elim ran [ inl code ↦ inl code | inr cut ↦ inr (inr (inl cut)) ];
      others = (λ s. absurd (grind (arith, ran, s)), λ s. absurd (grind (arith, ran, s)));
      cut = run.cut;
      cut_shows = λ other. inl (run.trace_shows other);
      console_shows = run.console_shows;
      keep = run.keep;
      console = λ r. absurd (grind (arith, ran, r));
      memory = λ s. absurd (grind (arith, ran, s));
    }

-- where it is no refusal and no call of a sink failed, the command ran, but for 30
pub runs_or_short : {save : Option (List ℕ)} {code : ℕ} {old new : Written}
    → ShowsCode save code old new → (code ≢ 21) → (code ≢ 23) → (code ≢ 25)
    → ¬ HasCause old.output.trace_faults new.output.trace_faults
    → ¬ HasCause old.output.console_faults new.output.console_faults
    → ¬ HasCause old.keep.faults new.keep.faults → IsRunCode code ⊎ (code ≡ 30)
runs_or_short shown bad long snapshot traced printed saved = elim shown.exit [
  | inl run ↦ inl run
  | inr others ↦ elim others [
    | inl refusal ↦ elim refusal [
      | inl words ↦ absurd (shown.others.0 words)
      | inr behind ↦ elim behind [
        | inl is ↦ absurd (bad is)
        | inr last ↦ elim last [
          | inl unread ↦ absurd (shown.others.1 unread)
          | inr two ↦ elim two [
            | inl is ↦ absurd (long is)
            | inr is ↦ absurd (snapshot is)
          ]
        ]
      ]
    ]
    | inr ends ↦ elim ends [
      | inl cut ↦ elim (shown.cut cut) [
        | inl cause ↦ absurd (traced cause)
        | inr two ↦ elim two [
          | inl cause ↦ absurd (printed cause)
          | inr cause ↦ absurd (saved cause)
        ]
      ]
      | inr memory ↦ inr memory
    ]
  ]
]

-- what the answer of a run that begins shows
pub record Shows (save : Option (List ℕ)) (script : Option NamedFile) (files : List NamedFile)
    (status : Status) (old new : Written) : Type 0 where
  pub code : ShowsCode save (status_code status) old new
  pub ran : IsRanCode (status_code status) → IsRun script files
  -- 21, 23 and 25, and their lines
  pub bad : status_code status ≡ 21 → IsBad script old new
  pub too_long : status_code status ≡ 23 → IsLong script files old new
  pub no_snapshot : status_code status ≢ 25

pub shows : {save : Option (List ℕ)} {script : Option NamedFile} {files : List NamedFile}
    {status : Status} {old new : Written} → Ended save script files status old new
    → Shows save script files status old new
shows {save = save} {status = status} {old = old} {new = new} (without_memory e h) =
    let code : status_code status ≡ 30 = ap status_code e in
    record {
      code = without_memory_shows save (status_code status) old new code h;
      ran = λ r. absurd (grind (arith, code, r));
      bad = λ s. absurd (omega (arith, s, code));
      too_long = λ s. absurd (omega (arith, s, code));
      no_snapshot = λ s. omega (arith, s, code);
    }
shows {save = save} {status = status} {old = old} {new = new} (as_too_long long is e h) =
    let code : status_code status ≡ 23 = ap status_code e in
    record {
      code = refused_shows save (status_code status) _ old new (inr (inl code)) h;
      ran = λ r. absurd (grind (arith, code, r));
      bad = λ s. absurd (omega (arith, s, code));
      too_long = λ s. record { long = long; is_first = is; line = h };
      no_snapshot = λ s. omega (arith, s, code);
    }
shows {save = save} {status = status} {old = old} {new = new} (as_bad_script named found is e h) =
    let code : status_code status ≡ 21 = ap status_code e in
    record {
      code = refused_shows save (status_code status) _ old new (inl code) h;
      ran = λ r. absurd (grind (arith, code, r));
      bad = λ s. record { named = named; found = found; is_bad = is; line = h };
      too_long = λ s. absurd (omega (arith, s, code));
      no_snapshot = λ s. omega (arith, s, code);
    }
shows (by_run fit good run) =
    let ran = run.ran in
    record {
      code = ran_shows run;
      ran = λ r. record { fit = fit; good = good };
      bad = λ s. absurd (grind (arith, ran, s));
      too_long = λ s. absurd (grind (arith, ran, s));
      no_snapshot = λ s. absurd (grind (arith, ran, s));
    }
