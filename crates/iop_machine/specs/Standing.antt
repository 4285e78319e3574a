-- How the program's machine stands for the machine.
use Rattle.std.specs.Prelude.{◌≡◌}
use Rattle.iop_ready.specs.KernelReady.{KernelStands}
use Rattle.iop_kernel.specs.Standing as kernel
use Rattle.iop_kernel.specs.System.{Kernel}
use Rattle.iop_machine.specs.Iop.{Iop}
use Rattle.iop_machine.specs.Laws.{IsMachine}
use Rattle.iop_machine.specs.World.{World, booted}
use Rattle.iop_machine.specs.declared.iop.Iop.{Iop as Program}
use Rattle.iop_machine.specs.declared.machine.Machine.{Machine}

-- all that the program has is what it is seen as, but for its kernel, which is this one
abbrev pub iop_of : Program → Kernel → Iop
iop_of m kernel = record {
  kernel = kernel;
  cpu = m.cpu;
  memory = m.guest;
  blocks = m.blocks;
  libraries = m.registry;
  modules = m.modules;
  events = m.events;
  begun = m.begun;
  over = m.over;
}

pub record Stands (m : Program) (s : Iop) : Type 0 where
  pub kernel : kernel.Stands KernelStands m.kernel s.kernel
  pub rest : s ≡ iop_of m s.kernel

-- it stands for a machine that was booted
abbrev pub StandsBooted : Program → World → Type 0
StandsBooted m w = (w ≡ booted w.iop) × Stands m w.iop

-- it stands for some state
abbrev pub IsSound : Program → Type 0
IsSound m = (s : Iop) × Stands m s

pub record StandsForWorld (m : Machine) (w : World) : Type 0 where
  pub is_new : w.is_new ≡ m.is_new
  pub iop : Stands m.iop w.iop

-- and for one that can be
abbrev pub IsSoundMachine : Machine → Type 0
IsSoundMachine m = (w : World) × StandsForWorld m w × IsMachine w
