-- The headline, by the laws of the machine.
use Rattle.std.proofs.Common.{◌≡◌, ℕ, zero, suc, ◌≤◌, nat_lt, Bool, true, false, Option, Some, None, IfSome, is_ok, option_map, option_to_list, Result, Ok, Err, List, [], ◌++◌, All, length, map, refl, ap, ◌∙◌, subst, arith, inr}
use Rattle.std.proofs.lemmas.Bool.Decides.{nat_tests}
use Rattle.std.proofs.lemmas.List.Elements.{All-head, All-tail, All-map}
use Rattle.iop_base.specs.Places.{IsRamSize}
use Rattle.iop_machine.specs.EventLaws.{EventsChangeTheirLines, NextComingIsLeast, StepsTakeTheirEvents}
use Rattle.iop_machine.specs.Laws.{IsAwake, IsMachine, IsStrict, RunsAreAwake, RunsAreComputed, RunsAreCounted, RunsAreDelivered, RunsAreOnTime, RunsAreStrict, RunsBeginAsMachines, RunsEnd, RunsKeepEvents, RunsStayMachines, RunsStaySound}
use Rattle.iop_machine.specs.ObjectLaws.{StepsKeepObjects}
use Rattle.iop_machine.specs.RestoringLaws.{RestoredMachinesAreMachines}
use Rattle.iop_machine.specs.StubLaws.{RunsTellStubs, StubsAreFollowed, StubsLeaveWithTheirLine}
use Rattle.iop_machine.specs.SwitchLaws.{RunningThreadsWereTaken, RunsSwitchByDispatch}
use Rattle.iop_machine.specs.Events.{CanCome}
use Rattle.iop_machine.specs.Looking.{takes_events}
use Rattle.iop_machine.specs.Modules.{ModulesLeft, NamedFile, none_loaded}
use Rattle.iop_machine.specs.Stepping.{Ran, steps}
use Rattle.iop_machine.specs.World.{World, beginning}
use Rattle.iop_modload.specs.declared.limits.TheConstants.{LONGEST_FILE}
use Rattle.iop_options.specs.Commands.{Command, command_of}
use Rattle.iop_options.specs.Values.{ram_bytes}
use Rattle.iop_options.proofs.ValueLemmas.{ram_sized}
use Rattle.iop_ports.specs.Files.{FilesTold}
use Rattle.iop_script.proofs.ScriptLaws.{script_of-can_run}
use Rattle.iop_script.specs.Reading.{BadLine, empty_script, script_of}
use Rattle.iop_script.specs.Scripts.{Script}
use Rattle.iop_script.specs.declared.raise.Raise.{Raise}
use Rattle.iop_front.specs.Answers.{AreGoodFiles}
use Rattle.iop_front.specs.Headline.{EndsAs, HoldsIn, HoldsAfter, HoldsOfRun, HoldsOfWords, HoldsOfFiles, machine_of}
use Rattle.iop_front.specs.Named.{files_by, first_by, inputs_of, kind_by, longest}
use Rattle.iop_front.specs.Outcome.{modules_to_load, named_file, outcome_behind, outcome_by, outcome_from, outcome_from_files, outcome_named, outcome_of_run, script_by}
use Rattle.iop_front.specs.Reading.{file_named}
use Rattle.iop_front.proofs.AllBound.{all_bound}
use Rattle.iop_front.proofs.Bindings.{is_bound_in}
use Rattle.iop_front.proofs.LoadingLines.{loads_in_tell}
use Rattle.iop_front.proofs.Loadings.{loads_exactly}
use Rattle.iop_front.proofs.ModulesLeft.{leaves_modules}
use Rattle.iop_front.proofs.OpeningLemmas.{IsNotLong}
use Rattle.iop_front.proofs.OutcomeLemmas.{from_long, from_short}
use Rattle.iop_front.proofs.TakingLemmas.{none_too_long}
use Rattle.iop_front.proofs.CommandFiles.{longest_input}

-- the laws of runs
pub record RunLaws : Type 0 where
  pub events_change_their_lines : EventsChangeTheirLines
  pub next_coming_is_least : NextComingIsLeast
  pub restored_machines_are_machines : RestoredMachinesAreMachines
  pub running_threads_were_taken : RunningThreadsWereTaken
  pub runs_are_awake : RunsAreAwake
  pub runs_are_computed : RunsAreComputed
  pub runs_are_counted : RunsAreCounted
  pub runs_are_delivered : RunsAreDelivered
  pub runs_are_on_time : RunsAreOnTime
  pub runs_are_strict : RunsAreStrict
  pub runs_begin_as_machines : RunsBeginAsMachines
  pub runs_end : RunsEnd
  pub runs_keep_events : RunsKeepEvents
  pub runs_stay_machines : RunsStayMachines
  pub runs_stay_sound : RunsStaySound
  pub runs_switch_by_dispatch : RunsSwitchByDispatch
  pub runs_tell_stubs : RunsTellStubs
  pub steps_keep_objects : StepsKeepObjects
  pub steps_take_their_events : StepsTakeTheirEvents
  pub stubs_are_followed : StubsAreFollowed
  pub stubs_leave_with_their_line : StubsLeaveWithTheirLine

-- a machine in each of its states, and in the step from there
pub holds_in : RunLaws → (w : World) → IsMachine w → HoldsIn w
holds_in laws w machine = record {
  loads = λ m s h. (loads_exactly s m, loads_in_tell w h);
  modules = leaves_modules w;
  bound = λ stub. (is_bound_in w stub, all_bound w stub);
  leaves = λ stub. laws.stubs_leave_with_their_line w stub machine;
  objects = λ kind. laws.steps_keep_objects w kind machine;
  on_time = laws.runs_are_on_time w;
  next = laws.next_coming_is_least w.iop;
  due = laws.steps_take_their_events w;
  changed = laws.events_change_their_lines w.iop;
}

-- the run of a command from a machine
pub ends_as : RunLaws → (command : Command) (first : World) → IsMachine first
    → EndsAs command first (outcome_from command first)
ends_as laws command first machine =
    let run = laws.runs_end first command.budget machine in
    record {
      steps_taken = run.0;
      most = run.2;
      stop = run.1;
      ends = run.3;
      outcome = ap (λ (r : Ran). outcome_of_run command.dump command.save r)
          (laws.runs_are_computed first command.budget run.0 run.1 machine run.3);
    }

-- a machine whose events can come
module _ (laws : RunLaws) (size : ℕ) (sized : IsRamSize size) (modules : ModulesLeft)
    (events : List Raise) (come : CanCome events) where
  abbrev first_world : World
  first_world = beginning size modules events

  -- behind its first step
  strict_after : (k : ℕ) → (steps k first_world).state.is_new ≡ false
      → (steps k first_world).state.iop.over ≡ None → IsStrict (steps k first_world).state
  unfolding steps
  strict_after zero old over = absurd (cc)
  strict_after (suc k) old over = laws.runs_are_strict size modules events k sized over

  awake_after : (k : ℕ) → (steps k first_world).state.is_new ≡ false
      → (steps k first_world).state.iop.over ≡ None
      → IsAwake (steps k first_world).state (takes_events (steps k first_world).state.iop)
  unfolding steps
  awake_after zero old over = absurd (cc)
  awake_after (suc k) old over = laws.runs_are_awake size modules events k sized come over

  -- in each state, and in the step from there
  holds_after : (k : ℕ) → HoldsAfter first_world events k
  holds_after k =
      let begins = laws.runs_begin_as_machines size modules events sized come in
      let machine = laws.runs_stay_machines first_world k begins in
      record {
        now = holds_in laws (steps k first_world).state machine;
        sound = laws.runs_stay_sound size modules events k sized;
        stubs = λ stub. laws.stubs_are_followed size modules events k stub sized;
        reported = λ stub bound. laws.runs_tell_stubs first_world k stub begins (inr bound);
        switches = laws.runs_switch_by_dispatch size modules events k sized;
        strict = strict_after k;
        taken = λ id. laws.running_threads_were_taken size modules events k id sized;
        counted = laws.runs_are_counted size modules events k sized;
        delivered = laws.runs_are_delivered size modules events k sized;
        awake = awake_after k;
        events = laws.runs_keep_events size modules events k;
      }

-- the run of a command by a script whose events can come
pub holds_of_run : RunLaws → (command : Command) (script : Script) (files : List NamedFile)
    → CanCome script.events → HoldsOfRun command script files
holds_of_run laws command script files come =
    let size = ram_bytes command.ram in
    let sized = ram_sized command.ram in
    let modules = none_loaded script (modules_to_load command.generate files) in
    let begins = laws.runs_begin_as_machines size modules script.events sized come in
    record {
      ends = ends_as laws command (machine_of command script files) begins;
      states = holds_after laws size sized modules script.events come;
    }

-- what a good script's file says, and its events, which can come
record IsRead (told : FilesTold) (name : Option (List ℕ)) : Type 0 where
  script : Script
  is : script_by (option_map (named_file told) name) ≡ Ok script
  come : CanCome script.events

none_come : CanCome []
none_come = record {
  order = λ i j d less within. absurd (omega arith);
  ticks = λ k d within. absurd (omega arith);
  lines = λ k d within. absurd (omega arith);
}

module _ (told : FilesTold) where
  abbrev IsShortFile : List ℕ → Type 0
  IsShortFile name = length (file_named told name) ≤ LONGEST_FILE

  read_by : (name : List ℕ) (r : Result Script BadLine)
      → nat_lt LONGEST_FILE (length (file_named told name)) ≡ false
      → script_of (file_named told name) ≡ r → is_ok r ≡ true → IsRead told (Some name)
  read_by name (Ok script) short e good =
      let runs = script_of-can_run (file_named told name) script e in
      record {
        script = script;
        is = from_short (named_file told name) (Ok script) short e;
        come = record { order = runs.order; ticks = runs.ticks; lines = runs.lines };
      }
  read_by name (Err bad) short e good = absurd (cc)

  is_read : (name : Option (List ℕ)) (names : List (List ℕ))
      → All IsShortFile (option_to_list name ++ names)
      → IfSome name (λ n. is_ok (script_of (file_named told n)) ≡ true) → IsRead told name
  is_read None names short good =
      record { script = empty_script; is = refl; come = none_come }
  is_read (Some name) names short good =
      let fits = All-head IsShortFile name names short in
      read_by name (script_of (file_named told name)) (grind (arith, nat_tests, fits)) refl good

  -- the files of modules are short, too
  rest_short : (name : Option (List ℕ)) (names : List (List ℕ))
      → All IsShortFile (option_to_list name ++ names) → All IsShortFile names
  rest_short None names short = short
  rest_short (Some name) names short = All-tail IsShortFile name names short

-- the files of a run that begins are short
short_inputs : (told : FilesTold) (command : Command) → command.restore ≡ None
    → AreGoodFiles command told → All (IsShortFile told) (inputs_of command)
short_inputs told command begins good =
    let first = kind_by command.script in
    subst (λ n. All (λ name. length (file_named told name) ≤ n) (inputs_of command))
    (longest_input command.script)
    (subst (λ (restore : Option (List ℕ)).
    All (λ name. length (file_named told name) ≤ longest (first_by restore first))
    (files_by restore (inputs_of command))) begins good.short)

pub holds_of_words : RunLaws → (words : List (List ℕ)) (told : FilesTold) (command : Command)
    → command_of words ≡ Some command → command.restore ≡ None → AreGoodFiles command told
    → HoldsOfWords words told command
holds_of_words laws words told command is begins good =
    let files = map (named_file told) command.modules in
    let inputs = short_inputs told command begins good in
    let read = is_read told command.script command.modules inputs good.script in
    let short = none_too_long files (All-map IsNotLong (named_file told) command.modules
    (rest_short told command.script command.modules inputs)) in
    record {
      script = read.script;
      is_script = read.is;
      outcome = ap (outcome_named told) is
          ∙ ap (outcome_from_files told command) begins
          ∙ ap (λ r. outcome_behind command r files) read.is
          ∙ ap (λ o. outcome_by command o read.script files) short;
      run = holds_of_run laws command read.script files read.come;
    }

-- the events of a script's file, if there is one, can come
come_by : (named : NamedFile) (long : Bool) (r : Result Script BadLine) (script : Script)
    → nat_lt LONGEST_FILE (length named.file) ≡ long → script_of named.file ≡ r
    → script_by (Some named) ≡ Ok script → CanCome script.events
come_by named true r script fits e is = let refused = from_long named fits in absurd (cc)
come_by named false (Err bad) script fits e is =
    let refused = from_short named (Err bad) fits e in absurd (cc)
come_by named false (Ok one) script fits e is =
    let read = from_short named (Ok one) fits e in
    let same : one ≡ script = cc in
    let runs = script_of-can_run named.file one e in
    subst (λ (s : Script). CanCome s.events) same
    (record { order = runs.order; ticks = runs.ticks; lines = runs.lines })

come_from : (file : Option NamedFile) (script : Script) → script_by file ≡ Ok script
    → CanCome script.events
come_from None script is =
    let same : empty_script ≡ script = cc in
    subst (λ (s : Script). CanCome s.events) same none_come
come_from (Some named) script is =
    come_by named (nat_lt LONGEST_FILE (length named.file)) (script_of named.file) script refl refl
    is

pub holds_of_files : RunLaws → (command : Command) (script_file : Option NamedFile)
    (files : List NamedFile) (script : Script) → script_by script_file ≡ Ok script
    → HoldsOfFiles command script_file files script
holds_of_files laws command script_file files script is = record {
  outcome = λ short.
      ap (λ r. outcome_behind command r files) is
      ∙ ap (λ o. outcome_by command o script files) short;
  run = holds_of_run laws command script files (come_from script_file script is);
}
