-- The processor with its memory and its kernel, and what takes it from one state to the next. What it has is
-- this project's own profile.
use Rattle.std.specs.Prelude.{◌+◌, Option, List, [], ◌∷◌, ◌++◌}
use Rattle.iop_base.specs.Piece.{Piece, Traced}
use Rattle.iop_base.specs.Output.{Output, Gives}
use Rattle.iop_base.specs.Text.{line_bytes}
use Rattle.iop_base.specs.declared.stop.Stop.{Stop}
use Rattle.iop_base.specs.declared.line.Line.{Line}
use Rattle.iop_exec.specs.declared.cpu.Cpu.{Cpu}
use Rattle.iop_registry.specs.declared.registry.Entry.{Entry}
use Rattle.iop_script.specs.declared.raise.Raise.{Raise}
use Rattle.iop_stubs.specs.Stubs.{Memory}
use Rattle.iop_stubs.specs.declared.live_stub.Stub.{Stub}
use Rattle.iop_sysmem.specs.BlockMap.{BlockMap}
use Rattle.iop_machine.specs.Modules.{ModulesLeft}
use Rattle.iop_kernel.specs.System.{Kernel, Core, System}
use Rattle.iop_thread.specs.ThreadTable.{ThreadTable}
use Rattle.iop_saved_machine.specs.declared.begun_module.BegunModule.{BegunModule}

pub record Iop : Type 0 where
  pub kernel : Kernel
  -- the processor, with the registers of the thread that runs
  pub cpu : Cpu
  pub memory : Memory
  -- the blocks of memory
  pub blocks : BlockMap
  -- the registered libraries
  pub libraries : List Entry
  -- the modules that were not loaded yet
  pub modules : ModulesLeft
  -- the script's events that are still to come
  pub events : List Raise
  -- the module that the loader's thread begins or runs, if there is one
  pub begun : Option BegunModule
  -- why it is stopped, where it is
  pub over : Option Stop

-- the kernel with its processor
abbrev pub core_of : Iop → Core
core_of s = record { kernel = s.kernel; cpu = s.cpu }

abbrev pub with_core : Iop → Core → Iop
with_core s core = record s { kernel = core.kernel; cpu = core.cpu }

abbrev pub with_threads : Iop → ThreadTable → Iop
with_threads s threads = record s { kernel = record s.kernel { threads = threads } }

-- all that a service looks at and changes
abbrev pub system_of : Iop → System
system_of s = record {
  core = core_of s;
  memory = s.memory;
  blocks = s.blocks;
  libraries = s.libraries;
}

abbrev pub with_system : Iop → System → Iop
with_system s system = record (with_core s system.core) {
  memory = system.memory;
  blocks = system.blocks;
  libraries = system.libraries;
}

-- what a call or a step makes of a state
pub record Transition (S : Type 0) : Type 0 where
  -- the state that it leaves
  pub state : S
  -- the pieces that it gives
  pub pieces : List Piece
  -- the stubs that it binds
  pub bound : List Stub

-- nothing is given
abbrev pub silent : {S : Type 0} → S → Transition S
silent s = record { state = s; pieces = []; bound = [] }

-- a line of this moment
abbrev pub tells : Iop → Line → Transition Iop
tells s line = record { state = s; pieces = Traced (line_bytes s.kernel.clock line) ∷ []; bound = [] }

-- one thing and then another
abbrev pub and_then : {S : Type 0} → Transition S → (S → Transition S) → Transition S
and_then t f = record {
  state = (f t.state).state;
  pieces = t.pieces ++ (f t.state).pieces;
  bound = t.bound ++ (f t.state).bound;
}

-- the same, with a state that is made of the one left
abbrev pub with_state : {S T : Type 0} → (S → T) → Transition S → Transition T
with_state f t = record { state = f t.state; pieces = t.pieces; bound = t.bound }

-- one moment later
abbrev pub later : Iop → Iop
later s = record s { kernel = record s.kernel { clock = s.kernel.clock + 1 } }

-- a call took this transition: what stands for the state that it leaves is left, and its pieces were given
pub record Takes {P S : Type 0} (stands_for : P → S → Type 0) (t : Transition S) (now : P)
    (old new : Output) : Type 0 where
  pub state : stands_for now t.state
  pub gives : Gives old new t.pieces

-- a call took the first part of a transition, after which the rest remains: who takes the rest has
-- taken all of it
abbrev pub Remains : {P S : Type 0} → (P → S → Type 0) → (whole rest : Transition S)
    → (old new : Output) → Type 0
Remains {P} {S} stands_for whole rest old new = (later : P) (last : Output)
    → Takes stands_for rest later new last → Takes stands_for whole later old last
