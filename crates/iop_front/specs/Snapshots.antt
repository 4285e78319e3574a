-- What reading the file of a snapshot, and putting its machine back, does to the files.
use Rattle.std.specs.Prelude.{◌≡◌, ℕ, ◌<◌, ◌≤◌, None, Some, IfSome, List, All, [], ◌∷◌, length}
use Rattle.iop_base.specs.Numbers.{IsByte}
use Rattle.iop_machine.specs.Laws.{IsMachine}
use Rattle.iop_machine.specs.Restoring.{iop_in, machine_in}
use Rattle.iop_machine.specs.World.{booted}
use Rattle.iop_saved_machine.specs.Back.{MachineState}
use Rattle.iop_snapshot.specs.declared.fault.SnapFault.{SnapFault}
use Rattle.iop_snapshot.specs.declared.fault.SnapFault.TheVariants as snap
use Rattle.iop_front.specs.Answers.{FilesRead, IsSnapshotOf}
use Rattle.iop_front.specs.Inputs.{Seen, HasStoppedShort, HasStoppedUnread}
use Rattle.iop_front.specs.Named.{AsSnapshot, longest}
use Rattle.iop_front.specs.declared.unrestored.Unrestored.{Unrestored}
use Rattle.iop_front.specs.declared.unrestored.Unrestored.TheVariants.{Unreadable, TooLong, Bad, NoMemory}

-- why a file's bytes are no machine that is put back
abbrev pub unrestored_of : SnapFault → Unrestored
unrestored_of snap.Bad = Bad
unrestored_of snap.Memory = NoMemory

-- the file of this name was opened and read, and no call failed
pub record HasTakenFile (name bytes : List ℕ) (old new : Seen) : Type 0 where
  pub is_file : IfSome old.told (IsSnapshotOf (record { name = name; file = bytes }))
  pub bytes_are : All IsByte bytes
  pub read : FilesRead AsSnapshot (name ∷ []) old.faults old.told new.told
  pub no_fault : new.faults ≡ old.faults

-- and it is not too long
pub record HasFile (name bytes : List ℕ) (old new : Seen) : Type 0 where
  pub taken : HasTakenFile name bytes old new
  pub short : length bytes ≤ longest AsSnapshot

-- the file of this name was read, and holds this machine
pub record HasRestored (name : List ℕ) (m : MachineState) (old new : Seen) : Type 0 where
  pub bytes : List ℕ
  pub file : HasFile name bytes old new
  pub holds : machine_in bytes ≡ Some m
  pub machine : IsMachine (booted (iop_in m))

-- the file is too long
pub record HasLongFile (name : List ℕ) (old new : Seen) : Type 0 where
  pub bytes : List ℕ
  pub taken : HasTakenFile name bytes old new
  pub long : longest AsSnapshot < length bytes

-- it holds no machine
pub record HasBadFile (name : List ℕ) (old new : Seen) : Type 0 where
  pub bytes : List ℕ
  pub file : HasFile name bytes old new
  pub bad : machine_in bytes ≡ None

-- why no machine was put back from the file of this name
abbrev pub HasNotRestored : List ℕ → Unrestored → Seen → Seen → Type 0
HasNotRestored name Unreadable old new = HasStoppedUnread AsSnapshot (name ∷ []) name old new
HasNotRestored name TooLong old new = HasLongFile name old new
HasNotRestored name Bad old new = HasBadFile name old new
HasNotRestored name NoMemory old new = HasStoppedShort AsSnapshot (name ∷ []) old new
