-- What the laws of runs that can be resumed say.
use Rattle.std.specs.Prelude.{◌≡◌, ℕ, ◌+◌, ◌<◌, ◌^◌, true, Some, None, List, All}
use Rattle.iop_base.specs.Numbers.{IsByte}
use Rattle.iop_base.specs.Places.{IsRamSize}
use Rattle.iop_base.specs.declared.stop.Stop.TheVariants.{Budget}
use Rattle.iop_machine.specs.Iop.{Iop, core_of}
use Rattle.iop_machine.specs.Laws.{IsMachine}
use Rattle.iop_machine.specs.Modules.{CanBeLeft, ModulesLeft}
use Rattle.iop_machine.specs.Restoring.{iop_in, loading_of, machine_in, snap, state_of}
use Rattle.iop_machine.specs.Running.{Ends}
use Rattle.iop_machine.specs.ScriptWords.{WordsCanStand}
use Rattle.iop_machine.specs.Standing.{StandsForWorld}
use Rattle.iop_machine.specs.Stepping.{steps}
use Rattle.iop_machine.specs.World.{World, booted, reset, beginning}
use Rattle.iop_machine.specs.declared.machine.Machine.{Machine}
use Rattle.iop_machine.specs.declared.snapshots.TheConstants.{SAVABLE_MOMENTS}
use Rattle.iop_saved_kernel.specs.Laws.{IsSteadyCore}
use Rattle.iop_saved_machine.specs.Back.{MachineState, parts_of}
use Rattle.iop_saved_machine.specs.Laws.{MachineCanBeBack, machine_in_order}
use Rattle.iop_saved_machine.specs.Loading.{LoadingIsShort}
use Rattle.iop_saved_machine.specs.Parts.{written_machine}
use Rattle.iop_script.specs.declared.raise.Raise.{Raise}
use Rattle.iop_resumable_runs.specs.Resumable.{IsResumable}

-- a machine begins as one that can be resumed
abbrev pub RunsBeginResumable : Type 0
RunsBeginResumable =
    (size : ℕ) (modules : ModulesLeft) (events : List Raise) → IsRamSize size → CanBeLeft modules
    → LoadingIsShort (loading_of (reset size modules events)) → WordsCanStand modules
    → IsResumable (beginning size modules events)

-- and each of its steps leaves one
abbrev pub RunsStayResumable : Type 0
RunsStayResumable =
    (w : World) (k : ℕ) → IsMachine w → IsResumable w → IsResumable (steps k w).state

-- a machine whose snapshot can be put back
pub record CanBeResumed (s : Iop) : Type 0 where
  pub back : MachineCanBeBack (state_of s)
  -- its processor and its threads are as they are read
  pub steady : IsSteadyCore (core_of s)

-- so is each of these, as long as the number of the next alarm or delay has its 64 bits
abbrev pub ResumableMachinesAreRead : Type 0
ResumableMachinesAreRead =
    (w : World) → IsMachine w → IsResumable w → w.iop.kernel.clock + 1 < 2 ^ 64
    → CanBeResumed w.iop

-- what is put back from the bytes of a snapshot can be resumed, too
abbrev pub RestoredMachinesAreResumable : Type 0
RestoredMachinesAreResumable =
    (bytes : List ℕ) (m : MachineState) → All IsByte bytes → machine_in bytes ≡ Some m
    → IsResumable (booted (iop_in m))

-- the machine that is put back of a snapshot of this one
abbrev pub resumed_of : Iop → World
resumed_of s = booted (iop_in (machine_in_order (state_of s)))

-- a machine whose run ended with its budget comes back from its snapshot, where that was written
pub record SnapshotsComeBack : Type 0 where
  pub back : (w : World) (n k : ℕ) → let s = (steps k w).state.iop in
      IsMachine w → IsResumable w → Ends w n k Budget → s.over ≡ None
      → s.kernel.clock < SAVABLE_MOMENTS → written_machine.fits (parts_of (state_of s)) ≡ true
      → machine_in (snap s) ≡ Some (machine_in_order (state_of s))
  -- and what stands for the machine that was put back stands for that at which the run ended
  pub same : (machine : Machine) (w : World) (n k : ℕ) → let s = (steps k w).state.iop in
      IsMachine w → Ends w n k Budget → s.over ≡ None → StandsForWorld machine (resumed_of s)
      → StandsForWorld machine (steps k w).state
