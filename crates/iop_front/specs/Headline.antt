-- The main promise as one record: what holds of the run whose pieces and status are the outcome of
-- a command. Each field is one promise, in the words of the crate that it is about.
use Rattle.std.specs.Prelude.{◌≡◌, ◌⊎◌, ◌↔◌, ℕ, ◌<◌, ◌≤◌, true, false, Option, None, Some, option_map, MatchOption, Ok, List, ◌++◌, length, map, All, Contains}
use Rattle.iop_base.specs.Numbers.{IsByte}
use Rattle.iop_base.specs.Places.{phys}
use Rattle.iop_base.specs.declared.stop.Stop.{Stop}
use Rattle.iop_kernel_laws.specs.CodeLaws.{calls_kind, KeepsObjects}
use Rattle.iop_kernel_laws.specs.Histories.{AreCounted, AreDelivered}
use Rattle.iop_kernel.specs.Kinds.{table}
use Rattle.iop_machine.specs.EventLaws.{TakesItsEvents, ChangesLines, IsNextComing, NothingComes}
use Rattle.iop_machine.specs.Histories.{call_in, calls_in}
use Rattle.iop_machine.specs.Laws.{IsAwake, IsMachine, IsOnTime, IsStrict, KeepsEvents, StaysSound}
use Rattle.iop_machine.specs.Looking.{takes_events, next_coming}
use Rattle.iop_machine.specs.Modules.{Module, NamedFile, none_loaded}
use Rattle.iop_machine.specs.Restoring.{iop_in, machine_in}
use Rattle.iop_machine.specs.Running.{Ends}
use Rattle.iop_machine.specs.Stepping.{executes, most_steps, step, steps}
use Rattle.iop_machine.specs.StubLaws.{ExecutesStub, IsTold}
use Rattle.iop_machine.specs.SwitchLaws.{RunsSince, SwitchesByDispatch, running_in}
use Rattle.iop_machine.specs.World.{World, beginning, booted}
use Rattle.iop_machine.specs.Iop.{Iop}
use Rattle.iop_options.specs.Commands.{Command, command_of}
use Rattle.iop_options.specs.Values.{ram_bytes}
use Rattle.iop_ports.specs.Files.{FilesTold}
use Rattle.iop_saved_machine.specs.Back.{MachineState}
use Rattle.iop_script.specs.Scripts.{Script}
use Rattle.iop_script.specs.declared.raise.Raise.{Raise}
use Rattle.iop_stubs.specs.Stubs.{stub_line}
use Rattle.iop_stubs.specs.declared.live_stub.Stub.{Stub}
use Rattle.iop_thread.specs.declared.kind.Kind.{Kind}
use Rattle.iop_front.specs.Answers.{AreGoodFiles}
use Rattle.iop_front.specs.Loadings.{IsBoundIn, LeavesModules, LoadsExactly, LoadsIn, TellLoading}
use Rattle.iop_front.specs.Outcome.{Outcome, ending_of, first_too_long, kept_of, modules_to_load, named_file, outcome_from, outcome_named, outcome_of_inputs, outcome_of_modules, outcome_of_snapshot, script_by}
use Rattle.iop_front.specs.Named.{AsSnapshot, longest}
use Rattle.iop_front.specs.Reading.{file_named}
use Rattle.iop_front.specs.Statuses.{status_of}
use Rattle.iop_front.specs.declared.status.Status.TheVariants.{SinkFault}

-- what holds in a state of a machine, and of the next step
pub record HoldsIn (w : World) : Type 0 where
  -- A module that comes to be loaded links exactly where each of its import tables finds a
  -- registered library of its name and major version, once no table is bad and there is room;
  -- and its `load` line tells what became of it.
  pub loads : (m : Module) (s : Iop) → LoadsIn w m s
      → LoadsExactly s m × TellLoading (step w).pieces s m
  -- No module is skipped: of those that are not loaded yet a step leaves the ones behind the one
  -- that it loads, none where each was refused, and all where none comes to be loaded.
  pub modules : LeavesModules w
  -- The stubs that are bound are exactly those of the import tables of a module that is loaded of
  -- whose index the library that the table finds has a function: they are bound to it.
  pub bound : (stub : Stub) → Contains (step w).bound stub ↔ IsBoundIn w stub
  -- Each stub that is live, or that the step binds, is live behind the step, or the step gives its
  -- line.
  pub leaves : (stub : Stub) → Contains w.iop.memory.live stub ⊎ Contains (step w).bound stub
      → Contains (step w).state.iop.memory.live stub
      ⊎ Contains (step w).pieces (stub_line w.iop.kernel.clock stub)
  -- A step that calls no service of an object's library changes none of its objects, but that
  -- threads wait for it no longer or in another order.
  pub objects : (kind : Kind) → calls_kind kind (call_in w) ≡ false
      → KeepsObjects (table kind w.iop.kernel) (table kind (step w).state.iop.kernel)
  -- Where a thread executes an instruction, outside a delay slot and while interrupts are on, no
  -- alarm and no delay has come.
  pub on_time : IsOnTime w
  -- What comes next is the least of all moments that are still to come.
  pub next : MatchOption (next_coming w.iop) (NothingComes w.iop) (IsNextComing w.iop)
  -- Of the script's events the step takes those that are due, and no others.
  pub due : w.is_new ≡ false → w.iop.over ≡ None → TakesItsEvents w
  -- They raise or lower their interrupt lines, as the last of each says, and change nothing else.
  pub changed : ChangesLines w.iop

-- the machine of a run before its first step; the state that it reaches by so many steps, and the
-- stubs bound and the pieces given on the way
module _ (first : World) (coming : List Raise) (k : ℕ) where
  abbrev pub reached : World
  reached = (steps k first).state

  -- what holds of that state and of the next step, where these events are to come
  pub record HoldsAfter : Type 0 where
    -- what holds in each state of a machine
    pub now : HoldsIn reached
    -- Memory is sound, the blocks are those of this memory, and each live stub is one that a
    -- linking of the run has bound. Each thread stands where its state says, one that waits for an
    -- object is once among the waiters of that object alone, and no wait is overdue.
    pub sound : StaysSound (steps k first).bound reached.iop
    -- A live stub that is executed goes to its function, after its second word.
    pub stubs : (stub : Stub) → executes reached ≡ true → Contains reached.iop.memory.live stub
        → phys (length reached.iop.memory.ram) reached.iop.cpu.pc ≡ Some stub.at
        → ExecutesStub reached stub
    -- Each stub that was bound is live, or the pieces have the line that it was stored into.
    pub reported : (stub : Stub) → Contains (steps k first).bound stub
        → Contains reached.iop.memory.live stub ⊎ IsTold stub (steps k first).pieces
    -- A thread that runs behind the step ran before it, or the step dispatches it and tells its
    -- `run` line; and no other step tells one.
    pub switches : SwitchesByDispatch reached
    -- Each switch runs the first ready thread of the best priority, and tells its `run` line; and
    -- where an instruction is executed while another thread may run, no ready one is better.
    pub strict : reached.is_new ≡ false → reached.iop.over ≡ None → IsStrict reached
    -- A thread that runs was dispatched by a step of the run, and has run since then.
    pub taken : (id : ℕ) → running_in reached ≡ Some id → RunsSince first k id
    -- The count of each live semaphore is what its first count and the calls so far make of it.
    pub counted : AreCounted reached.iop.kernel.semaphores (calls_in k first)
    -- What was sent to a live mailbox so far was received from it or is queued in it.
    pub delivered : AreDelivered reached.iop.kernel.mailboxes (calls_in k first)
    -- Nothing executes only while another thread may run; the clock goes on to what comes next, and
    -- all is quiet where nothing comes.
    pub awake : reached.is_new ≡ false → reached.iop.over ≡ None
        → IsAwake reached (takes_events reached.iop)
    -- Of the script's events none is lost, and none is taken before its tick.
    pub events : KeepsEvents coming reached.iop

-- the machine before the first step of a command's run: its memory has the command's size and is
-- zeros, it is to load these modules, in order, or the generated one, each with its words of the
-- script, and the script's events are to come
abbrev pub machine_of : Command → Script → List NamedFile → World
machine_of command script files =
    beginning (ram_bytes command.ram)
    (none_loaded script (modules_to_load command.generate files)) script.events

-- of the run of a command from a machine, where this outcome is promised of it
pub record EndsAs (command : Command) (first : World) (promised : Outcome) : Type 0 where
  -- It takes so many steps, fewer than `most_steps` says for the budget, executes no more
  -- instructions than the budget, and stops for this reason: nothing is left to do, the budget is
  -- spent, or an instruction faults.
  pub steps_taken : ℕ
  pub most : steps_taken < most_steps command.budget first
  pub stop : Stop
  pub ends : Ends first command.budget steps_taken stop
  -- Its outcome is what these steps give, the line of the end, and the dump of the memory that they
  -- leave; the status of the stop; and, where one is saved, the snapshot of the state that they
  -- leave.
  pub outcome : let run = steps steps_taken first in
      promised
      ≡ record {
        pieces = run.pieces ++ ending_of command.dump run.state stop;
        status = status_of stop;
        status_if_cut = SinkFault;
        kept = kept_of command.save run.state stop;
      }

-- of the run of a command by what its script says, and these files
pub record HoldsOfRun (command : Command) (script : Script) (files : List NamedFile) : Type 0 where
  pub ends : EndsAs command (machine_of command script files)
      (outcome_of_modules command script files)
  -- In each state that the machine reaches, by any number of steps, all laws hold.
  pub states : (k : ℕ) → HoldsAfter (machine_of command script files) script.events k

-- of these words, which are a command whose run begins, where the files have this content
pub record HoldsOfWords (words : List (List ℕ)) (told : FilesTold) (command : Command)
    : Type 0 where
  -- what its script's file says; nothing, where it names none
  pub script : Script
  pub is_script : script_by (option_map (named_file told) command.script) ≡ Ok script
  -- The outcome that `iop_main` promises is that of the run with this script and these modules.
  pub outcome : outcome_named told (command_of words)
      ≡ outcome_of_modules command script (map (named_file told) command.modules)
  pub run : HoldsOfRun command script (map (named_file told) command.modules)

-- of a command, the file of its script, if it has one, and the files of its modules, whatever the
-- host gave
pub record HoldsOfFiles (command : Command) (script_file : Option NamedFile)
    (files : List NamedFile) (script : Script) : Type 0 where
  -- Where no file is too long, the outcome that `iop_main` promises of a command that has read
  -- these files is that of the run.
  pub outcome : first_too_long files ≡ None
      → outcome_of_inputs command script_file files ≡ outcome_of_modules command script files
  pub run : HoldsOfRun command script files

-- of a command that goes on from a machine, which a snapshot's file holds
pub record HoldsOfSnapshot (command : Command) (named : NamedFile) (m : MachineState)
    : Type 0 where
  -- Where the file is not too long, the outcome that `iop_main` promises of it is that of the run
  -- from that machine.
  pub outcome : length named.file ≤ longest AsSnapshot
      → outcome_of_snapshot command named ≡ outcome_from command (booted (iop_in m))
  pub ends : EndsAs command (booted (iop_in m)) (outcome_from command (booted (iop_in m)))
  -- Each state that it reaches is one of a machine, and what holds in those holds in it.
  pub machine : (k : ℕ) → IsMachine (steps k (booted (iop_in m))).state
  pub states : (k : ℕ) → HoldsIn (steps k (booted (iop_in m))).state

-- of these words, which are a command that goes on from the file of this name, where the files have
-- this content
pub record HoldsOfRestored (words : List (List ℕ)) (told : FilesTold) (command : Command)
    (name : List ℕ) : Type 0 where
  -- the machine whose snapshot the file is
  pub m : MachineState
  pub holds : machine_in (file_named told name) ≡ Some m
  -- The outcome that `iop_main` promises is that of the run from this machine.
  pub outcome : outcome_named told (command_of words) ≡ outcome_from command (booted (iop_in m))
  pub run : HoldsOfSnapshot command (named_file told name) m

-- What holds of the command `iop`.
pub record Headline : Type 0 where
  -- So it is for all words that are a command whose run begins, and all content of files, where no
  -- file is too long and the script is good.
  pub words : (words : List (List ℕ)) (told : FilesTold) (command : Command)
      → command_of words ≡ Some command → command.restore ≡ None → AreGoodFiles command told
      → HoldsOfWords words told command
  -- So it is, too, for each command and all files that it may have read, where the script is good:
  -- also of files that do not tell their content, as those of the host.
  pub files : (command : Command) (script_file : Option NamedFile) (files : List NamedFile)
      (script : Script) → script_by script_file ≡ Ok script
      → HoldsOfFiles command script_file files script
  -- So it is for all words that are a command which goes on from a snapshot, where its file, which
  -- is of bytes, is one, and not too long.
  pub restored : (words : List (List ℕ)) (told : FilesTold) (command : Command) (name : List ℕ)
      → command_of words ≡ Some command → command.restore ≡ Some name
      → AreGoodFiles command told → All IsByte (file_named told name)
      → HoldsOfRestored words told command name
  -- And so it is for each command and each file, of bytes, that is a snapshot of a machine.
  pub snapshots : (command : Command) (named : NamedFile) (m : MachineState)
      → All IsByte named.file → machine_in named.file ≡ Some m → HoldsOfSnapshot command named m
