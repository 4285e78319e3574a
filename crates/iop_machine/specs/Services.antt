-- What a `syscall` leaves of the machine, and how modules end. That the next module begins in the
-- instruction in which one returns is this project's own profile.
use Rattle.std.specs.Prelude.{ℕ, Option, Some, None, []}
use Rattle.iop_base.specs.declared.guest_fault.GuestFault.{GuestFault}
use Rattle.iop_base.specs.declared.stop.Stop.TheVariants as stops
use Rattle.iop_exec.specs.declared.cpu.Cpu.{Cpu}
use Rattle.iop_exec.specs.declared.cpu.Event.{Event}
use Rattle.iop_exec.specs.declared.cpu.Event.TheVariants as events
use Rattle.iop_exec.specs.Row.{behind_syscall}
use Rattle.iop_kernel.specs.Serving.{services}
use Rattle.iop_kernel.specs.System.{System, Served}
use Rattle.iop_kernel.specs.declared.after.After.{After}
use Rattle.iop_kernel.specs.declared.after.After.TheVariants.{Resume, Switch, ModuleReturned, Fault}
use Rattle.iop_modload.specs.Finishing.{Leaves, finishes}
use Rattle.iop_thread.specs.Operations as threads
use Rattle.iop_saved_machine.specs.declared.begun_module.BegunModule.{BegunModule}
use Rattle.iop_machine.specs.Loading.{loads_first}
use Rattle.iop_machine.specs.Modules.{modules_of}
use Rattle.iop_machine.specs.Registers.{ends_call}
use Rattle.iop_machine.specs.Iop.{Iop, Transition, silent, and_then, with_state, with_threads, system_of, with_system}

-- the instruction at pc faults: the machine is stopped, and nothing else changes
abbrev pub faults_with : Iop → GuestFault → Iop
faults_with s kind = record s { over = Some (stops.Fault kind s.cpu.pc) }

-- what the end of a module leaves
abbrev pub leaves : Iop → Leaves → Transition Iop
leaves s left = record {
  state =
      record s { memory = left.memory; blocks = left.blocks; libraries = left.libraries };
  pieces = left.pieces;
  bound = [];
}

-- the loader's thread, which runs, goes on with the registers of the module that begins; where
-- there is none, it ends
abbrev pub goes_on_by : Iop → Option BegunModule → Iop
goes_on_by s None = with_threads s (threads.ends_running s.kernel.threads)
goes_on_by s (Some begun) = s

-- a module returned a value: it is kept or removed, and the first of those left that loads begins
unfoldable pub ends_module : Iop → BegunModule → ℕ → Transition Iop
ends_module s m value =
    and_then
    (leaves s (finishes s.kernel.clock s.memory s.blocks s.libraries m.number m.place value))
    (λ v. with_state (λ u. goes_on_by u u.begun) (loads_first (modules_of v.modules) v))

-- the loader's thread returned
abbrev pub returns_by : Iop → Option BegunModule → ℕ → Transition Iop
returns_by s None value = silent (goes_on_by s None)
returns_by s (Some m) value = ends_module s m value

-- what a service left and gave
abbrev pub serves : Iop → Served → Transition Iop
serves s d = record { state = with_system s d.left.state; pieces = d.pieces; bound = [] }

-- by what becomes of its caller, a call takes its instruction, or the instruction faults
abbrev pub calls_by : Iop → Served → After → Transition Iop
calls_by s d Resume = with_state ends_call (serves s d)
calls_by s d Switch = with_state ends_call (serves s d)
calls_by s d (ModuleReturned value) =
    with_state ends_call (and_then (serves s d) (λ v. returns_by v v.begun value))
calls_by s d (Fault kind) = silent (faults_with s kind)

-- the system that a `syscall` calls, at which the processor stands: it has moved on from there
abbrev pub calling : Iop → System
calling s = system_of (record s { cpu = behind_syscall s.cpu })

-- a `syscall` of a code; the processor behind it is this one
unfoldable pub calls : Iop → (behind : Cpu) → (code : ℕ) → Transition Iop
calls s behind code =
    let d = services (system_of (record s { cpu = behind })) code in calls_by s d d.left.after

-- what an instruction is still to do by its event: the processor stands at it, unless it was plain
abbrev pub concludes : Iop → Event → Transition Iop
concludes s events.Plain = silent s
concludes s (events.Fault kind) = silent (faults_with s kind)
concludes s (events.Service code) = calls s (behind_syscall s.cpu) code
