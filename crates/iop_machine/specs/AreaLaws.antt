-- What the kernel's area says to those who read it: the linker its export tables (ps2sdk's irx.h),
-- the processor its instructions (MIPS I). Places, codes and the number of functions are this
-- project's own profile.
use Rattle.std.specs.Prelude.{◌≡◌, ℕ, ◌+◌, ◌*◌, ◌<◌, Some, List, length, All}
use Rattle.std.specs.List.{slice_get}
use Rattle.iop_base.specs.Numbers.{number_at, with_bytes}
use Rattle.iop_base.specs.Places.{IsRamSize}
use Rattle.iop_base.specs.declared.words.TheConstants.{JUMP_BACK}
use Rattle.iop_isa.specs.Instructions.{inst_of}
use Rattle.iop_isa.specs.declared.instruction.Inst.TheVariants.{Jr, Syscall}
use Rattle.iop_registry.specs.KernelLibraries.{kernel_libraries}
use Rattle.iop_registry.specs.declared.registry.Entry.{Entry}
use Rattle.iop_script.specs.declared.raise.Raise.{Raise}
use Rattle.irx_tables.specs.Exports.{header_of, functions}
use Rattle.iop_machine.specs.declared.arguments.TheConstants.{MODULE_RETURN}
use Rattle.iop_kernel.specs.declared.call.TheConstants.{THREAD_RETURN_CALL, HANDLER_RETURN_CALL, MODULE_RETURN_CALL}
use Rattle.iop_services.specs.Codes.{service_code}
use Rattle.iop_services.specs.declared.codes.TheConstants.{SERVICES}
use Rattle.iop_thread.specs.declared.thread.TheConstants.{THREAD_RETURN}
use Rattle.iop_kernel.specs.declared.active_handler.TheConstants.{HANDLER_RETURN}
use Rattle.iop_machine.specs.KernelArea.{syscall_word, service_at, kernel_area}
use Rattle.iop_machine.specs.Modules.{ModulesLeft, HasRoom, modules_of}
use Rattle.iop_machine.specs.Stepping.{step}
use Rattle.iop_machine.specs.World.{beginning}

-- an instruction that calls the kernel with a code
pub record HasCall (memory : List ℕ) (at code : ℕ) : Type 0 where
  pub word : number_at memory at 4 ≡ syscall_word code
  pub call : inst_of (number_at memory at 4) ≡ Some (Syscall code)

-- a function that calls the kernel with a code and jumps back, with nothing in the delay slot
pub record HasService (memory : List ℕ) (at code : ℕ) : Type 0 where
  pub calls : HasCall memory at code
  pub back : number_at memory (at + 4) 4 ≡ JUMP_BACK
  pub jump : inst_of (number_at memory (at + 4) 4) ≡ Some (Jr 31)
  pub slot : number_at memory (at + 8) 4 ≡ 0

-- the export table of a kernel library: its name, its version, whose minor part is 1, and its
-- functions, of which each calls the kernel with a code of its own
pub record HasLibrary (memory : List ℕ) (library : ℕ) (entry : Entry) : Type 0 where
  pub header : header_of memory entry.table ≡ Some (entry.name, entry.major * 256 + 1)
  pub count : length (functions memory entry.table) ≡ SERVICES
  pub function : (number : ℕ) → number < SERVICES
      → slice_get (functions memory entry.table) number ≡ Some (service_at library number)
  pub service : (number : ℕ) → number < SERVICES
      → HasService memory (service_at library number) (service_code library number)

-- the export tables of all kernel libraries stand where the registry has them, and the returns of a
-- thread, a handler and a module in their places
pub record HasKernel (memory : List ℕ) : Type 0 where
  pub library : (number : ℕ) (entry : Entry) → slice_get kernel_libraries number ≡ Some entry
      → HasLibrary memory number entry
  pub thread_return : HasCall memory THREAD_RETURN THREAD_RETURN_CALL
  pub handler_return : HasCall memory HANDLER_RETURN HANDLER_RETURN_CALL
  pub module_return : HasCall memory MODULE_RETURN MODULE_RETURN_CALL

-- the area is read so whatever else stands in memory
abbrev pub KernelAreaIsRead : Type 0
KernelAreaIsRead = (ram : List ℕ) → HasKernel (with_bytes ram 0 kernel_area)

-- and booting, which loads modules whose words have room in the argument block, leaves it so
abbrev pub BootingKeepsKernel : Type 0
BootingKeepsKernel =
    (size : ℕ) (modules : ModulesLeft) (events : List Raise) → IsRamSize size
    → All HasRoom (modules_of modules)
    → HasKernel (step (beginning size modules events)).state.iop.memory.ram
