-- What loads modules leaves the kernel and the script's events as they are, and a processor steady;
-- and the events that a step leaves are those that were not due.
use Rattle.std.proofs.Common.{◌≡◌, ℕ, Option, Some, None, Result, Ok, Err, List, [], ◌∷◌, refl, ap}
use Rattle.iop_base.specs.declared.code.Code.{Code}
use Rattle.iop_exec.specs.Laws.{IsSteady}
use Rattle.iop_exec.specs.Row.{Row, Goes, Serves, Faults}
use Rattle.iop_exec.specs.declared.cpu.Cpu.{Cpu}
use Rattle.iop_kernel.specs.System.{Kernel, Served}
use Rattle.iop_kernel.specs.Serving.{services}
use Rattle.iop_kernel.specs.declared.after.After.{After}
use Rattle.iop_kernel.specs.declared.after.After.TheVariants.{Resume, Switch, ModuleReturned, Fault}
use Rattle.iop_modload.specs.Finishing.{finishes}
use Rattle.iop_modload.specs.declared.loaded.Loaded.{Loaded}
use Rattle.iop_script.specs.declared.raise.Raise.{Raise}
use Rattle.iop_thread.proofs.KeptSteadily.{begun_steady}
use Rattle.iop_thread.specs.ThreadTable.{ThreadTable}
use Rattle.iop_machine.specs.Iop.{Iop, Transition, with_threads}
use Rattle.iop_machine.specs.Loading.{loading_of, places, enters_or, loads_first, with_kernel, starts_by, boots}
use Rattle.iop_machine.specs.Modules.{Module, module_start, modules_of}
use Rattle.iop_kernel.specs.Registers.{nobodys}
use Rattle.iop_machine.specs.Services.{leaves, goes_on_by, ends_module, returns_by, calls, calls_by, serves, calling}
use Rattle.iop_saved_machine.specs.declared.begun_module.BegunModule.{BegunModule}
use Rattle.iop_machine.specs.Looking.{takes_events}
use Rattle.iop_machine.specs.Stepping.{performs, waits_by, Turn, Stays, Boots, Delivers, Dispatches, Executes, Waits, takes_turn}
use Rattle.iop_machine.specs.World.{World}

-- what loads modules leaves the kernel and the script's events as they are, and a processor steady
abbrev pub Lands : Iop → Iop → Type 0
Lands s t = record {
  kernel : t.kernel ≡ s.kernel;
  steady : IsSteady s.cpu → IsSteady t.cpu;
  events : t.events ≡ s.events;
}

-- by what its loading came to, where the next one leaves it so
enters_land : (next : Iop → Transition Iop) → ((v : Iop) → Lands v (next v).state) → (s : Iop)
    (m : Module) (r : Result Loaded Code) → Lands s (enters_or next s m r).state
unfolding module_start
enters_land next lands s m (Ok loaded) =
    record { kernel = refl; steady = λ h. begun_steady _ _ refl refl; events = refl }
enters_land next lands s m (Err code) = lands s

-- the first module that loads begins
pub loads_first_lands : (modules : List Module) (s : Iop) → Lands s (loads_first modules s).state
unfolding loads_first
loads_first_lands [] s = record { kernel = refl; steady = λ h. h; events = refl }
loads_first_lands (m ∷ rest) s =
    let loading = loading_of s m in
    enters_land (loads_first rest) (loads_first_lands rest) (places s loading).state m
    loading.answer

-- of the kernel the threads alone change, and the script's events stay
abbrev pub LeavesRest : Iop → Iop → Type 0
LeavesRest s t = record {
  kernel : t.kernel ≡ record s.kernel { threads = t.kernel.threads };
  events : t.events ≡ s.events;
}

-- with any threads, behind what loads modules
leaves_with : (s t : Iop) (threads : ThreadTable) → Lands s t
    → LeavesRest s (with_threads t threads)
leaves_with s t threads lands = record {
  kernel = ap (λ (k : Kernel). record k { threads = threads }) lands.kernel;
  events = lands.events;
}

-- whether the loader's thread begins, with any processor
starts_leave : (s t : Iop) (o : Option BegunModule) (cpu : Cpu) → Lands s t
    → LeavesRest s (record (starts_by t o) { cpu = cpu })
starts_leave s t None cpu lands =
    let left = leaves_with s t t.kernel.threads lands in
    record { kernel = left.kernel; events = left.events }
starts_leave s t (Some begun) cpu lands =
    let left = leaves_with s t _ lands in record { kernel = left.kernel; events = left.events }

-- or ends
goes_on_leave : (s t : Iop) (o : Option BegunModule) → Lands s t → LeavesRest s (goes_on_by t o)
goes_on_leave s t None = leaves_with s t _
goes_on_leave s t (Some begun) = leaves_with s t t.kernel.threads

-- booting leaves the rest
pub boots_leave : (s : Iop) → LeavesRest s (boots s).state
unfolding boots
boots_leave s =
    let v = (loads_first (modules_of s.modules) (with_kernel s)).state in
    starts_leave s v v.begun nobodys (loads_first_lands (modules_of s.modules) (with_kernel s))

-- and so does a module that returns
pub returns_leave : (s : Iop) (o : Option BegunModule) (value : ℕ)
    → LeavesRest s (returns_by s o value).state
unfolding ends_module
returns_leave s None value = record { kernel = refl; events = refl }
returns_leave s (Some m) value =
    let left = (leaves s
    (finishes s.kernel.clock s.memory s.blocks s.libraries m.number m.place value)).state in
    let v = (loads_first (modules_of left.modules) left).state in
    goes_on_leave s v v.begun (loads_first_lands (modules_of left.modules) left)

-- a service was called
calls_by_events : (s : Iop) (d : Served) (after : After)
    → (calls_by s d after).state.events ≡ s.events
calls_by_events s d Resume = refl
calls_by_events s d Switch = refl
calls_by_events s d (ModuleReturned value) =
    let now = (serves s d).state in (returns_leave now now.begun value).events
calls_by_events s d (Fault kind) = refl

-- an instruction is executed
pub performs_events : (s : Iop) (r : Row) → (performs s r).state.events ≡ s.events
unfolding calls
performs_events s (Goes after None) = refl
performs_events s (Goes after (Some storing)) = refl
performs_events s (Serves code) =
    let d = services (calling s) code in calls_by_events s d d.left.after
performs_events s (Faults kind) = refl

-- the clock goes on
waits_events : (s : Iop) (o : Option ℕ) → (waits_by s o).state.events ≡ s.events
waits_events s None = refl
waits_events s (Some moment) = refl

-- so a turn leaves these
abbrev pub events_after : World → Turn → List Raise
events_after w Stays = w.iop.events
events_after w Boots = w.iop.events
events_after w other = (takes_events w.iop).events

pub turn_events : (w : World) (t : Turn)
    → (takes_turn w t).state.iop.events ≡ events_after w t
turn_events w Stays = refl
turn_events w Boots = (boots_leave w.iop).events
turn_events w (Delivers d) = refl
turn_events w (Dispatches d) = refl
turn_events w (Executes r) = performs_events (takes_events w.iop) r
turn_events w (Waits coming) = waits_events (takes_events w.iop) coming
