-- What each step leaves beside the kernel: modules that can be left, short lists, and a registry
-- whose tables have their headers in RAM.
use Rattle.std.proofs.Common.{◌≡◌, ℕ, length, refl, subst, sym, Option, Some, None, Result, Ok, Err, List, [], ◌∷◌}
use Rattle.iop_base.specs.declared.code.Code.{Code}
use Rattle.iop_exec.specs.Row.{Row, Goes, Serves, Faults}
use Rattle.iop_kernel.specs.Serving.{services}
use Rattle.iop_kernel.specs.System.{Served}
use Rattle.iop_kernel.specs.declared.after.After.{After}
use Rattle.iop_kernel.specs.declared.after.After.TheVariants.{Resume, Switch, ModuleReturned, Fault}
use Rattle.iop_machine.specs.Iop.{Iop, Transition}
use Rattle.iop_machine.specs.Loading.{loading_of, places, enters_or, loads_first, with_kernel, starts_by, boots}
use Rattle.iop_machine.specs.Looking.{takes_events}
use Rattle.iop_machine.specs.Modules.{Module, ModulesLeft, modules_of}
use Rattle.iop_machine.specs.Services.{leaves, goes_on_by, ends_module, returns_by, calls, calls_by, calling, serves}
use Rattle.iop_machine.specs.Stepping.{Turn, Stays, Boots, Delivers, Dispatches, Executes, Waits, takes_turn, performs, waits_by}
use Rattle.iop_machine.specs.World.{World}
use Rattle.iop_modload.specs.Finishing.{finishes}
use Rattle.iop_modload.specs.declared.loaded.Loaded.{Loaded}
use Rattle.iop_registry.specs.declared.registry.Entry.{Entry}
use Rattle.iop_saved_machine.specs.declared.begun_module.BegunModule.{BegunModule}
use Rattle.iop_script.specs.declared.raise.Raise.{Raise}
use Rattle.iop_resumable_runs.proofs.Left.{AreLeft, module_taken, events_taken}
use Rattle.iop_resumable_runs.proofs.Libraries.{AreRegistered, ended_registry, services_registry}

-- what stands beside the kernel
pub record Beside (size : ℕ) (modules : ModulesLeft) (events : List Raise) (entries : List Entry)
    : Type 0 where
  pub left : AreLeft modules events
  pub libraries : AreRegistered size entries

-- in a RAM of so many bytes
abbrev pub StandsIn : (size : ℕ) → Iop → Type 0
StandsIn size s = Beside size s.modules s.events s.libraries

module _ (size : ℕ) where
  abbrev StandsBeside : Iop → Type 0
  StandsBeside = StandsIn size

  -- by what a module's loading came to, where the next one leaves it so
  enters_beside : (next : Iop → Transition Iop)
      → ((v : Iop) → StandsBeside v → StandsBeside (next v).state) → (s : Iop) (m : Module)
      (r : Result Loaded Code) → StandsBeside s → StandsBeside (enters_or next s m r).state
  enters_beside next keeps s m (Ok loaded) h = h
  enters_beside next keeps s m (Err code) h = keeps s h

  -- the first module that loads begins
  loads_first_beside : (modules : List Module) (s : Iop) → StandsBeside s
      → StandsBeside (loads_first modules s).state
  unfolding loads_first
  loads_first_beside [] s h = h
  loads_first_beside (m ∷ rest) s h =
      let loading = loading_of s m in
      enters_beside (loads_first rest) (loads_first_beside rest) (places s loading).state m
      loading.answer
      (record { left = module_taken s.modules s.events h.left; libraries = h.libraries })

  -- whether the loader's thread begins, or ends
  starts_beside : (s : Iop) (o : Option BegunModule) → StandsBeside s → StandsBeside (starts_by s o)
  starts_beside s None h = h
  starts_beside s (Some begun) h = h

  goes_on_beside : (s : Iop) (o : Option BegunModule) → StandsBeside s
      → StandsBeside (goes_on_by s o)
  goes_on_beside s None h = h
  goes_on_beside s (Some begun) h = h

  -- a machine is booted
  boots_beside : (s : Iop) → StandsBeside s → StandsBeside (boots s).state
  unfolding boots
  boots_beside s h =
      let left = (loads_first (modules_of s.modules) (with_kernel s)).state in
      starts_beside left left.begun (loads_first_beside (modules_of s.modules) (with_kernel s) h)

  -- a module ends, if one runs
  returns_beside : (s : Iop) (o : Option BegunModule) (value : ℕ) → StandsBeside s
      → StandsBeside (returns_by s o value).state
  unfolding ends_module
  returns_beside s None value h = h
  returns_beside s (Some m) value h =
      let left = (leaves s
      (finishes s.kernel.clock s.memory s.blocks s.libraries m.number m.place value)).state in
      let now = (loads_first (modules_of left.modules) left).state in
      goes_on_beside now now.begun
      (loads_first_beside (modules_of left.modules) left (record {
        left = h.left;
        libraries = ended_registry size s.libraries h.libraries s.kernel.clock s.memory s.blocks
            m.number m.place value;
      }))

  -- by what becomes of the caller
  calls_beside : (s : Iop) (d : Served) → StandsBeside s → StandsBeside (serves s d).state
      → (after : After) → StandsBeside (calls_by s d after).state
  calls_beside s d h served Resume = served
  calls_beside s d h served Switch = served
  calls_beside s d h served (ModuleReturned value) =
      let now = (serves s d).state in returns_beside now now.begun value served
  calls_beside s d h served (Fault kind) = h

  -- an instruction of what executes
  performs_beside : (s : Iop) → length s.memory.ram ≡ size → (r : Row) → StandsBeside s
      → StandsBeside (performs s r).state
  unfolding calls
  performs_beside s same (Goes after None) h = h
  performs_beside s same (Goes after (Some storing)) h = h
  performs_beside s same (Serves code) h =
      let d = services (calling s) code in
      calls_beside s d h
      (record {
        left = h.left;
        libraries = subst (λ size. AreRegistered size d.left.state.libraries) same
            (services_registry (calling s)
            (subst (λ size. AreRegistered size s.libraries) (sym same) h.libraries) code);
      })
      d.left.after
  performs_beside s same (Faults kind) h = h

  -- the clock goes on
  waits_beside : (s : Iop) (o : Option ℕ) → StandsBeside s → StandsBeside (waits_by s o).state
  waits_beside s None h = h
  waits_beside s (Some moment) h = h

-- each turn
pub turn_beside : (w : World) (t : Turn) → StandsIn (length w.iop.memory.ram) w.iop
    → StandsIn (length w.iop.memory.ram) (takes_turn w t).state.iop
turn_beside w t h = by t (record {
  left = events_taken w.iop.modules w.iop.events w.iop.kernel.clock h.left;
  libraries = h.libraries;
})
  where
    v : Iop
    v = takes_events w.iop

    size : ℕ
    size = length w.iop.memory.ram

    by : (t : Turn) → StandsIn size v → StandsIn size (takes_turn w t).state.iop
    by Stays taken = h
    by Boots taken = boots_beside size w.iop h
    by (Delivers d) taken = taken
    by (Dispatches d) taken = taken
    by (Executes r) taken = performs_beside size v refl r taken
    by (Waits coming) taken = waits_beside size v coming taken
