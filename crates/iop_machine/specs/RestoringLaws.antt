-- What the law of machines that are put back says.
use Rattle.std.specs.Prelude.{◌≡◌, ℕ, Some, List, All}
use Rattle.iop_saved_machine.specs.Back.{MachineState}
use Rattle.iop_saved_machine.specs.Loading.{LoadingIsShort}
use Rattle.iop_base.specs.Numbers.{IsByte}
use Rattle.iop_machine.specs.Laws.{IsMachine}
use Rattle.iop_machine.specs.Restoring.{iop_in, machine_in, snap}
use Rattle.iop_machine.specs.World.{booted}

-- bytes that are the snapshot of a machine
pub record IsSnapshot (bytes : List ℕ) (m : MachineState) : Type 0 where
  -- that which goes on is a machine
  pub machine : IsMachine (booted (iop_in m))
  -- and its snapshot has these bytes
  pub told : snap (iop_in m) ≡ bytes
  -- the lists of its modules and of its script have room in the counts of a snapshot
  pub short : LoadingIsShort m.loading

-- so it is with all bytes from which a machine is put back
abbrev pub RestoredMachinesAreMachines : Type 0
RestoredMachinesAreMachines =
    (bytes : List ℕ) (m : MachineState) → All IsByte bytes → machine_in bytes ≡ Some m
    → IsSnapshot bytes m
