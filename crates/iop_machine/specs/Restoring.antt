-- How a machine stands in a snapshot, and which machines are put back. This project's own profile.
use Rattle.std.specs.Prelude.{ℕ, ◌+◌, nat_le, nat_lt, Bool, true, ◌&&◌, if◌then◌else◌, Option, Some, None, option_and_then, List, [], ◌∷◌, length}
use Rattle.std.specs.List.{list_all}
use Rattle.iop_intr.specs.declared.irqs.TheConstants.{IRQ_LINES}
use Rattle.iop_modload.specs.declared.limits.TheConstants.{LONGEST_FILE}
use Rattle.iop_saved_checks.specs.Kernels.{agrees}
use Rattle.iop_saved_machine.specs.Back.{MachineState, parts_of, machine_back, machine_form}
use Rattle.iop_saved_machine.specs.Loading.{LoadingParts}
use Rattle.iop_saved_machine.specs.Parts.{written_machine}
use Rattle.iop_script.specs.declared.raise.Raise.{Raise}
use Rattle.iop_script.specs.declared.statements.TheConstants.{MOST_MODULES}
use Rattle.iop_snapshot.specs.Forms.{read_whole}
use Rattle.iop_time.specs.declared.ticks.TheConstants.{NEVER}
use Rattle.iop_kernel.specs.System.{Kernel}
use Rattle.iop_machine.specs.Loader.{loader_may_go_on}
use Rattle.iop_machine.specs.ScriptWords.{words_may_stand}
use Rattle.iop_machine.specs.Iop.{Iop, system_of}
use Rattle.iop_machine.specs.Modules.{Module, ModulesLeft, modules_of, strings}
use Rattle.iop_machine.specs.declared.arguments.TheConstants.{MOST_WORDS, MOST_WORD_BYTES}
use Rattle.iop_machine.specs.declared.machine.Machine.{Machine}
use Rattle.iop_machine.specs.declared.snapshots.TheConstants.{SAVABLE_MOMENTS}

-- what a machine has of its modules and of its script
abbrev pub loading_of : Iop → LoadingParts
loading_of s = record {
  begun = s.begun;
  next = s.modules.next;
  modules = s.modules.files;
  events = s.events;
  args = s.modules.args;
  named = s.modules.named;
}

-- what a snapshot has of a machine: all but why it is stopped
abbrev pub state_of : Iop → MachineState
state_of s = record { system = system_of s; loading = loading_of s }

-- the bytes of its snapshot
abbrev pub snap : Iop → List ℕ
snap s = written_machine.spell (parts_of (state_of s))

-- whether a machine is saved at a moment
abbrev pub is_savable_at : ℕ → Bool
is_savable_at moment = nat_lt moment SAVABLE_MOMENTS

-- whether the program's machine can be saved: it was put back and has not run since, or its last run
-- ended with its budget; and its moment is not too late
abbrev pub is_resumable : Machine → Bool
is_resumable m = m.at_budget && is_savable_at m.iop.kernel.clock

-- the modules that are left
abbrev pub left_in : LoadingParts → ModulesLeft
left_in p = record { args = p.args; named = p.named; next = p.next; files = p.modules }

-- the machine that goes on with all this
abbrev pub iop_in : MachineState → Iop
iop_in m = record {
  kernel = m.system.core.kernel;
  cpu = m.system.core.cpu;
  memory = m.system.memory;
  blocks = m.system.blocks;
  libraries = m.system.libraries;
  modules = left_in m.loading;
  events = m.loading.events;
  begun = m.loading.begun;
  over = None;
}

-- whether each alarm and each delay can have taken an instruction
abbrev pub may_have_taken : Kernel → Bool
may_have_taken k = nat_le k.timers.next (k.clock + 1)

-- whether an event can come, which is not before a moment
abbrev pub may_come : (last : ℕ) → Raise → Bool
may_come last e = nat_le last e.at && nat_lt e.at NEVER && nat_lt e.line IRQ_LINES

-- whether all of them can, each not before the one in front of it
abbrev pub may_come_behind : (last : ℕ) → List Raise → Bool
may_come_behind last [] = true
may_come_behind last (e ∷ es) = may_come last e && may_come_behind e.at es

-- whether a module's file is not too long, and its words have room in the argument block
abbrev pub has_room : Module → Bool
has_room m =
    nat_le (length m.file) LONGEST_FILE && nat_le (length m.words) MOST_WORDS
    && nat_le (length (strings m.words)) MOST_WORD_BYTES

-- whether these can be the modules that are left: their numbers are some, and each has room
abbrev pub may_be_left : ModulesLeft → Bool
may_be_left left =
    nat_le 1 left.next && nat_le (left.next + length left.files) (MOST_MODULES + 1)
    && list_all has_room (modules_of left)

-- whether a machine that was put back can go on: its tables agree, and alarms and delays took
-- instructions; events can come, and modules can be left; its moment is one at which machines are
-- saved; no two lists of words are for one module; and its loader can go on
abbrev pub may_go_on : MachineState → Bool
may_go_on m =
    agrees m.system.memory m.system.core.kernel && may_have_taken m.system.core.kernel
    && may_come_behind 0 m.loading.events && may_be_left (left_in m.loading)
    && is_savable_at m.system.core.kernel.clock && words_may_stand m.loading && loader_may_go_on m

abbrev pub if_it_may : MachineState → Option MachineState
if_it_may m = if may_go_on m then Some m else None

-- the machine that these bytes, all of them, are a snapshot of
unfoldable pub machine_in : List ℕ → Option MachineState
machine_in bytes =
    option_and_then if_it_may (option_and_then machine_back (read_whole machine_form bytes))
