-- How the machine loads its modules, one after the other. That the first module that loads is begun, and how,
-- is this project's own profile.
use Rattle.std.specs.Prelude.{ℕ, Option, Some, None, Result, Ok, Err, List, [], ◌∷◌, length}
use Rattle.iop_base.specs.Numbers.{with_bytes}
use Rattle.iop_base.specs.declared.code.Code.{Code}
use Rattle.iop_base.specs.declared.line.Line.TheVariants.{Load, Refused}
use Rattle.iop_modload.specs.Loading.{Loads, loads}
use Rattle.iop_modload.specs.declared.loaded.Loaded.{Loaded}
use Rattle.iop_machine.specs.declared.arguments.TheConstants.{ARGUMENTS, ARGUMENTS_LEN}
use Rattle.iop_thread.specs.Operations as threads
use Rattle.iop_saved_machine.specs.declared.begun_module.BegunModule.{BegunModule}
use Rattle.iop_machine.specs.KernelArea.{kernel_area}
use Rattle.iop_machine.specs.Modules.{Module, modules_of, without_first, argument_block, module_start}
use Rattle.iop_kernel.specs.Registers.{nobodys}
use Rattle.iop_machine.specs.Storing.{stores_bytes, fills}
use Rattle.iop_machine.specs.Iop.{Iop, Transition, silent, tells, and_then, with_state, with_threads}

-- the kernel's area is written
abbrev pub with_kernel : Iop → Iop
with_kernel s = record s {
  memory =
      record s.memory { ram = with_bytes s.memory.ram 0 kernel_area };
}

-- what the loading of a module comes to now
abbrev pub loading_of : Iop → Module → Loads
loading_of s m = loads s.kernel.clock s.memory s.blocks s.libraries m.file

-- the first module that is left is loaded or refused, and taken out
abbrev pub places : Iop → Loads → Transition Iop
places s loading = record {
  state = record s {
    memory = loading.memory;
    blocks = loading.blocks;
    modules = without_first s.modules;
  };
  pieces = loading.pieces;
  bound = loading.bound;
}

-- the argument block is written: zeros, and then these bytes
abbrev pub passes : Iop → List ℕ → Transition Iop
passes s block =
    and_then (fills s ARGUMENTS ARGUMENTS_LEN) (λ v. stores_bytes v ARGUMENTS block)

-- the registers are those with which a module begins that is handed so many words
abbrev pub begins : Iop → (number : ℕ) → Loaded → (words : ℕ) → Iop
begins s number loaded words = record s {
  begun = Some (record { number = number; place = loaded.place });
  cpu = module_start loaded words;
}

-- a module that was loaded is told, handed its argument block, and begins
abbrev pub enters : Iop → (number : ℕ) → Loaded → (words : ℕ) → (block : List ℕ) → Transition Iop
enters s number loaded words block =
    and_then (tells s (Load number loaded.place.base loaded.place.len))
    (λ v. with_state (λ u. begins u number loaded words) (passes v block))

-- by what its loading came to: it begins, or is told to be refused, and then the next one follows
abbrev pub enters_or : (next : Iop → Transition Iop) → Iop → Module → Result Loaded Code
    → Transition Iop
enters_or next s m (Ok loaded) =
    enters s m.number loaded (length m.words) (argument_block m.words)
enters_or next s m (Err code) = and_then (tells s (Refused m.number code)) next

-- the first of these modules, which are those that are left, that loads begins, if one does
unfoldable pub loads_first : List Module → Iop → Transition Iop
loads_first [] s = silent (record s { begun = None })
loads_first (m ∷ rest) s =
    let loading = loading_of s m in
    and_then (places s loading) (λ v. enters_or (loads_first rest) v m loading.answer)

-- the loader's thread is ready, with the registers of the module that begins, if there is one
abbrev pub starts_by : Iop → Option BegunModule → Iop
starts_by s None = s
starts_by s (Some begun) = with_threads s (threads.begins s.kernel.threads s.cpu)

-- and nobody has those of the processor any more
abbrev pub starts : Iop → Iop
starts s = record (starts_by s s.begun) { cpu = nobodys }

-- the kernel's area is written, and the first module that loads begins
unfoldable pub boots : Iop → Transition Iop
boots s = with_state starts (loads_first (modules_of s.modules) (with_kernel s))
