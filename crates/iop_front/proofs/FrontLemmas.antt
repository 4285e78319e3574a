-- What stands past the first bytes of a file does not matter, nor what stands behind a file that is
-- too long or behind a bad script.
use Rattle.std.proofs.Common.{◌≡◌, ◌⊎◌, ℕ, ◌<◌, ◌≤◌, nat_lt, Bool, true, false, cond, Option, Some, None, option_map, option_to_list, is_some, IsSome, Result, Ok, Err, is_err, List, [], ◌∷◌, ◌++◌, length, map, take, append-nil, refl, ap, sym, ◌∙◌, subst, arith, inl, inr}
use Rattle.std.specs.Option.{option_or}
use Rattle.std.proofs.lemmas.Bool.{lt-ltb}
use Rattle.std.proofs.lemmas.Bool.Decides.{nat_tests}
use Rattle.std.proofs.lemmas.List.{length-take, take_all, map-append}
use Rattle.std.proofs.lemmas.List.Folds.{find-append}
use Rattle.iop_machine.specs.Modules.{NamedFile}
use Rattle.iop_modload.specs.declared.limits.TheConstants.{LONGEST_FILE}
use Rattle.iop_options.specs.Commands.{Command}
use Rattle.iop_ports.specs.Files.{FilesTold}
use Rattle.iop_script.specs.Reading.{BadLine, empty_script, script_of}
use Rattle.iop_script.specs.Scripts.{Script}
use Rattle.iop_front.specs.Answers.{EndsReading}
use Rattle.iop_front.specs.Outcome.{Outcome, Meets, first_too_long, script_by, outcome_behind, outcome_of_files, outcome_from_files, outcome_of_inputs, outcome_named, read_limit}
use Rattle.iop_front.specs.Reading.{file_named}
use Rattle.iop_front.specs.declared.status.Status.{Status}
use Rattle.iop_front.specs.Keeping.{Written}
use Rattle.iop_front.specs.Named.{inputs_of}
use Rattle.iop_front.proofs.OutcomeLemmas.{from_long, from_short, long_outcome}

-- the first that is too long is so also before others
long_before : (files others : List NamedFile) (long : NamedFile)
    → first_too_long files ≡ Some long → first_too_long (files ++ others) ≡ Some long
long_before files others long e =
    find-append (λ (named : NamedFile). nat_lt LONGEST_FILE (length named.file)) files others
    ∙ ap (λ (o : Option NamedFile). option_or o (first_too_long others)) e

module _ (command : Command) (told : FilesTold) where
  -- a file that is named, and its first bytes, one more than it may have
  abbrev whole : List ℕ → NamedFile
  whole name = record { name = name; file = file_named told name }

  abbrev front : List ℕ → NamedFile
  front name = record { name = name; file = take read_limit (file_named told name) }

  -- the first bytes are too many exactly where the file is too long, and else they are the file
  long_front : (name : List ℕ) → nat_lt LONGEST_FILE (length (file_named told name)) ≡ true
      → nat_lt LONGEST_FILE (length (take read_limit (file_named told name))) ≡ true
  long_front name e =
      let file = file_named told name in
      let long : LONGEST_FILE < length file = grind (arith, nat_tests, e) in
      lt-ltb LONGEST_FILE (length (take read_limit file))
      (omega (arith, length-take read_limit file, long))

  short_front : (name : List ℕ) → nat_lt LONGEST_FILE (length (file_named told name)) ≡ false
      → front name ≡ whole name
  short_front name e =
      let file = file_named told name in
      let short : length file ≤ read_limit = grind (arith, nat_tests, e) in
      ap (λ bytes. record { name = name; file = bytes }) (take_all read_limit file short)

  -- of the fronts and the files the same is the first that is too long
  record AreLong (names : List (List ℕ)) : Type 0 where
    name : List ℕ
    fronts : first_too_long (map front names) ≡ Some (front name)
    wholes : first_too_long (map whole names) ≡ Some (whole name)

  abbrev Alike : List (List ℕ) → Type 0
  Alike names = (map front names ≡ map whole names) ⊎ AreLong names

  alike_by : (b : Bool) (name : List ℕ) (names : List (List ℕ))
      → nat_lt LONGEST_FILE (length (file_named told name)) ≡ b → Alike names
      → Alike (name ∷ names)
  alike_by true name names e h = inr (record {
    name = name;
    fronts = ap (λ b. cond b (Some (front name)) (first_too_long (map front names)))
        (long_front name e);
    wholes = ap (λ b. cond b (Some (whole name)) (first_too_long (map whole names))) e;
  })
  alike_by false name names e h =
      let same = short_front name e in
      elim h [
        | inl all ↦ inl (ap (λ one. one ∷ map front names) same ∙ ap (λ t. whole name ∷ t) all)
        | inr long ↦ inr (record {
          name = long.name;
          fronts = ap (λ b. cond b (Some (front name)) (first_too_long (map front names)))
              (ap (λ (one : NamedFile). nat_lt LONGEST_FILE (length one.file)) same ∙ e)
              ∙ long.fronts;
          wholes = ap (λ b. cond b (Some (whole name)) (first_too_long (map whole names))) e
              ∙ long.wholes;
        })
      ]

  alike : (names : List (List ℕ)) → Alike names
  alike [] = inl refl
  alike (name ∷ names) =
      alike_by (nat_lt LONGEST_FILE (length (file_named told name))) name names refl (alike names)

  -- where one of the files is too long, those behind do not matter
  module _ (script : Script) where
    ended_by : (found : Option NamedFile) (names left : List (List ℕ)) → IsSome found
        → first_too_long (map whole names) ≡ found
        → outcome_of_files command script (map whole names)
        ≡ outcome_of_files command script (map whole (names ++ left))
    ended_by None names left some e = absurd (cc)
    ended_by (Some long) names left some e =
        long_outcome command script (map whole names) long e
        ∙ sym (ap (outcome_of_files command script) (map-append whole names left)
        ∙ long_outcome command script (map whole names ++ map whole left) long
        (long_before (map whole names) (map whole left) long e))

    modules_same : (names left : List (List ℕ))
        → (left ≡ []) ⊎ IsSome (first_too_long (map front names))
        → outcome_of_files command script (map front names)
        ≡ outcome_of_files command script (map whole (names ++ left))
    modules_same names left ends = elim (alike names) [
      | inl all ↦ ap (outcome_of_files command script) all ∙ elim ends [
        | inl none ↦
            ap (λ t. outcome_of_files command script (map whole t)) (sym (append-nil names))
            ∙ ap (λ t. outcome_of_files command script (map whole (names ++ t))) (sym none)
        | inr some ↦
            ended_by (first_too_long (map whole names)) names left
            (subst (λ (fs : List NamedFile). IsSome (first_too_long fs)) all some) refl
      ]
      | inr long ↦
          long_outcome command script (map front names) (front long.name) long.fronts
          ∙ sym (ap (outcome_of_files command script) (map-append whole names left)
          ∙ long_outcome command script (map whole names ++ map whole left) (whole long.name)
          (long_before (map whole names) (map whole left) (whole long.name) long.wholes))
    ]

  -- where the script is good, reading ended at the modules
  ends_modules : (script : Option NamedFile) (files : List NamedFile) {left : List (List ℕ)}
      → is_err (script_by script) ≡ false → EndsReading script files left
      → (left ≡ []) ⊎ IsSome (first_too_long files)
  ends_modules script files good ends = elim ends [
    | inl none ↦ inl none
    | inr other ↦ elim other [ inl bad ↦ absurd (cc) | inr some ↦ inr some ]
  ]

  module _ (name : List ℕ) (names left : List (List ℕ))
      (ends : EndsReading (Some (front name)) (map front names) left) where
    abbrev IsSame : Type 0
    IsSame =
        outcome_of_inputs command (Some (front name)) (map front names)
        ≡ outcome_of_inputs command (Some (whole name)) (map whole (names ++ left))

    -- by what the script's file reads as, if it is not too long
    script_same : (read : Result Script BadLine)
        → nat_lt LONGEST_FILE (length (file_named told name)) ≡ false
        → script_of (file_named told name) ≡ read → IsSame
    script_same (Err bad) short is =
        let says = from_short (whole name) (Err bad) short is in
        let same = ap (λ (f : NamedFile). script_by (Some f)) (short_front name short) in
        ap (λ r. outcome_behind command r (map front names)) (same ∙ says)
        ∙ sym (ap (λ r. outcome_behind command r (map whole (names ++ left))) says)
    script_same (Ok script) short is =
        let says = from_short (whole name) (Ok script) short is in
        let same = ap (λ (f : NamedFile). script_by (Some f)) (short_front name short) in
        ap (λ r. outcome_behind command r (map front names)) (same ∙ says)
        ∙ modules_same script names left
        (ends_modules (Some (front name)) (map front names)
        (ap is_err (same ∙ says)) ends)
        ∙ sym (ap (λ r. outcome_behind command r (map whole (names ++ left))) says)

    -- by whether it is too long
    file_same : (b : Bool) → nat_lt LONGEST_FILE (length (file_named told name)) ≡ b → IsSame
    file_same true e =
        ap (λ r. outcome_behind command r (map front names))
        (from_long (front name) (long_front name e))
        ∙ sym (ap (λ r. outcome_behind command r (map whole (names ++ left)))
        (from_long (whole name) e))
    file_same false e = script_same (script_of (file_named told name)) e refl

  -- what was read has the outcome of all that is named
  inputs_same : (named : Option (List ℕ)) (modules names left : List (List ℕ))
      (script : Option NamedFile) (files : List NamedFile)
      → option_to_list named ++ modules ≡ names ++ left → is_some script ≡ is_some named
      → option_to_list script ++ files ≡ map front names → EndsReading script files left
      → outcome_of_inputs command script files
      ≡ outcome_of_inputs command (option_map whole named) (map whole modules)
  inputs_same None modules names left None files e is are ends =
      ap (outcome_of_files command empty_script) are
      ∙ modules_same empty_script names left
      (subst (λ (fs : List NamedFile). (left ≡ []) ⊎ IsSome (first_too_long fs)) are
      (ends_modules None files refl ends))
      ∙ ap (λ t. outcome_of_files command empty_script (map whole t)) (sym e)
  inputs_same None modules names left (Some script) files e is are ends = absurd (cc)
  inputs_same (Some name) modules names left None files e is are ends = absurd (cc)
  inputs_same (Some name) modules [] left (Some script) files e is are ends = absurd (cc)
  inputs_same (Some name) modules (first ∷ names) left (Some script) files e is are ends =
      let same : first ≡ name = cc in
      let behind : names ++ left ≡ modules = cc in
      let file : script ≡ front first = cc in
      let others : files ≡ map front names = cc in
      let ended : EndsReading (Some (front first)) (map front names) left =
      subst (λ (s : NamedFile). EndsReading (Some s) (map front names) left) file
      (subst (λ (fs : List NamedFile). EndsReading (Some script) fs left) others ends) in
      ap (λ (s : NamedFile). outcome_of_inputs command (Some s) files) file
      ∙ ap (λ (fs : List NamedFile). outcome_of_inputs command (Some (front first)) fs) others
      ∙ file_same first names left ended
      (nat_lt LONGEST_FILE (length (file_named told first))) refl
      ∙ ap (λ n. outcome_of_inputs command (Some (whole n)) (map whole (names ++ left))) same
      ∙ ap (λ t. outcome_of_inputs command (Some (whole name)) (map whole t)) behind

  pub read_outcome : (names left : List (List ℕ)) (script : Option NamedFile)
      (files : List NamedFile) (status : Status) (old new : Written) → command.restore ≡ None
      → inputs_of command ≡ names ++ left → is_some script ≡ is_some command.script
      → option_to_list script ++ files ≡ map front names → EndsReading script files left
      → Meets (outcome_of_inputs command script files) status old new
      → Meets (outcome_named told (Some command)) status old new
  read_outcome names left script files status old new begins e is are ends h =
      subst (λ (o : Outcome). Meets o status old new)
      (inputs_same command.script command.modules names left script files e is are ends
      ∙ sym (ap (outcome_from_files told command) begins)) h
