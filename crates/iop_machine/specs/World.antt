-- The state of the whole machine: this project's own profile.
use Rattle.std.specs.Prelude.{ℕ, Bool, true, false, None, List, [], ◌∷◌, replicate}
use Rattle.iop_registry.specs.KernelLibraries.{kernel_libraries}
use Rattle.iop_script.specs.declared.raise.Raise.{Raise}
use Rattle.iop_sysmem.specs.declared.blocks.TheConstants.{KERNEL}
use Rattle.iop_kernel.specs.System as kernel
use Rattle.iop_thread.specs.States.{zeroed_at}
use Rattle.iop_machine.specs.Modules.{ModulesLeft}
use Rattle.iop_machine.specs.Iop.{Iop}

pub record World : Type 0 where
  -- whether it is still to be booted
  pub is_new : Bool
  pub iop : Iop

-- it was booted
abbrev pub booted : Iop → World
booted s = record { is_new = false; iop = s }

unfoldable pub zeros : ℕ → List ℕ
zeros size = replicate size 0

-- the core as it begins, with a memory of zeros in which the kernel's block alone is used: it is to
-- load these modules, and these events are to come
abbrev pub reset : ℕ → ModulesLeft → List Raise → Iop
reset size modules events = record {
  kernel = kernel.beginning;
  cpu = zeroed_at 0;
  memory = record { ram = zeros size; live = [] };
  blocks = record { size = size; used = KERNEL ∷ [] };
  libraries = kernel_libraries;
  modules = modules;
  events = events;
  begun = None;
  over = None;
}

-- the machine before its first step
abbrev pub beginning : ℕ → ModulesLeft → List Raise → World
beginning size modules events = record { is_new = true; iop = reset size modules events }
