-- What the laws of whole machines in snapshots say.
use Rattle.std.specs.Prelude.{◌≡◌, ◌↔◌, true, is_some, Some}
use Rattle.iop_kernel.specs.Standing.{HasSizeOf}
use Rattle.iop_registry.specs.Entries.{IsRegistry}
use Rattle.iop_saved_kernel.specs.Laws.{CanBeBack, IsSteadyCore, core_in_order}
use Rattle.iop_snapshot.specs.Forms.{IsLawful}
use Rattle.iop_stubs.specs.Binding.{IsSound}
use Rattle.iop_sysmem.specs.BlockMap.{AreBlocks}
use Rattle.iop_saved_machine.specs.Back.{MachineState, parts_of, machine_back, machine_form}
use Rattle.iop_saved_machine.specs.Loading.{LoadingIsShort}
use Rattle.iop_saved_machine.specs.Parts.{MachineParts, written_machine, plain_machine}

pub record MachinesAreLawful : Type 0 where
  -- what was spelled is read, whatever follows, and what was read is what is spelled
  pub lawful : IsLawful machine_form
  -- and it is spelled as it is written
  pub same : (p : MachineParts) → machine_form.spell p ≡ written_machine.spell p

-- a machine is as it can be put back
pub record MachineCanBeBack (m : MachineState) : Type 0 where
  pub core : CanBeBack m.system.core
  pub memory : IsSound m.system.memory
  pub blocks : AreBlocks m.system.blocks
  pub same_size : HasSizeOf m.system.blocks m.system.memory
  pub libraries : IsRegistry m.system.libraries

-- with the ready list by priority
abbrev pub machine_in_order : MachineState → MachineState
machine_in_order m =
    record m { system = record m.system { core = core_in_order m.system.core } }

-- a machine that can be put back comes back from its parts, in order
abbrev pub MachinesComeBack : Type 0
MachinesComeBack =
    (m : MachineState) → MachineCanBeBack m
    → machine_back (parts_of m) ≡ Some (machine_in_order m)

-- of what was read and put back
pub record MachinesTellWhatWasPut : Type 0 where
  -- the parts that would be written again are those that were put back
  pub parts : (p : MachineParts) (m : MachineState) → machine_form.fits p ≡ true
      → machine_back p ≡ Some m → parts_of m ≡ p
  -- its ready threads stand by priority
  pub order : (p : MachineParts) (m : MachineState) → machine_form.fits p ≡ true
      → machine_back p ≡ Some m → machine_in_order m ≡ m
  -- it can be put back again
  pub sound : (p : MachineParts) (m : MachineState) → machine_form.fits p ≡ true
      → machine_back p ≡ Some m → MachineCanBeBack m
  -- and its lists have room in their counts
  pub short : (p : MachineParts) (m : MachineState) → machine_form.fits p ≡ true
      → machine_back p ≡ Some m → LoadingIsShort m.loading

pub record MachinesAreRead : Type 0 where
  -- what has room where it is written, can be put back and is steady, can be read and put back
  pub fits : (m : MachineState) → MachineCanBeBack m → IsSteadyCore m.system.core
      → written_machine.fits (parts_of m) ≡ true → machine_form.fits (parts_of m) ≡ true
  -- and what was read and put back is steady
  pub steady : (p : MachineParts) (m : MachineState) → machine_form.fits p ≡ true
      → machine_back p ≡ Some m → IsSteadyCore m.system.core

-- parts can be read exactly where they have a spelling, their processors being steady ones, and all
-- of them can be put back
abbrev pub PartsAreReadWhereBack : Type 0
PartsAreReadWhereBack =
    (p : MachineParts) → (machine_form.fits p ≡ true)
    ↔ ((plain_machine.fits p ≡ true) × (is_some (machine_back p) ≡ true))
