-- What the laws of switches say: each thread that runs was dispatched, and each `run` line tells of
-- a dispatch.
use Rattle.std.specs.Prelude.{◌≡◌, ℕ, ◌<◌, ◌≤◌, ◌⊎◌, Option, Some, List, [], ◌∷◌, All}
use Rattle.iop_base.specs.Piece.{Traced}
use Rattle.iop_base.specs.Places.{IsRamSize}
use Rattle.iop_base.specs.Text.{line_bytes}
use Rattle.iop_base.specs.declared.line.Line.TheVariants.{Run}
use Rattle.iop_kernel.specs.Dispatching.{Dispatched}
use Rattle.iop_kernel_laws.specs.SwitchLaws.{IsNoRun}
use Rattle.iop_script.specs.declared.raise.Raise.{Raise}
use Rattle.iop_machine.specs.Modules.{ModulesLeft}
use Rattle.iop_machine.specs.Stepping.{Dispatches, turn_of, step, steps}
use Rattle.iop_machine.specs.World.{World, beginning}

-- the thread that runs
abbrev pub running_in : World → Option ℕ
running_in w = w.iop.kernel.threads.running

-- the next step dispatches the thread of an id, and tells its `run` line alone
pub record IsTaken (w : World) (id : ℕ) : Type 0 where
  pub dispatched : Dispatched
  pub turn : turn_of w ≡ Dispatches dispatched
  pub runs : running_in (step w).state ≡ Some id
  pub pieces : (step w).pieces ≡ Traced (line_bytes w.iop.kernel.clock (Run id)) ∷ []

-- what the next step shows of the thread that runs
pub record SwitchesByDispatch (w : World) : Type 0 where
  -- one that runs behind it did so before, or the step dispatches it
  pub running : (id : ℕ) → running_in (step w).state ≡ Some id
      → (running_in w ≡ Some id) ⊎ IsTaken w id
  -- a step that dispatches none tells of none
  pub lines : All IsNoRun (step w).pieces ⊎ ((id : ℕ) × IsTaken w id)

-- in each state that a run reaches
abbrev pub RunsSwitchByDispatch : Type 0
RunsSwitchByDispatch =
    (size : ℕ) (modules : ModulesLeft) (events : List Raise) (k : ℕ) → IsRamSize size
    → SwitchesByDispatch (steps k (beginning size modules events)).state

-- one of k steps dispatches a thread, which runs from then on
pub record RunsSince (w : World) (k id : ℕ) : Type 0 where
  pub at : ℕ
  pub before : at < k
  pub taken : IsTaken (steps at w).state id
  pub since : (j : ℕ) → at < j → j ≤ k → running_in (steps j w).state ≡ Some id

-- so it is with each thread that runs behind k steps of a run
abbrev pub RunningThreadsWereTaken : Type 0
RunningThreadsWereTaken =
    (size : ℕ) (modules : ModulesLeft) (events : List Raise) (k id : ℕ) → IsRamSize size
    → let first = beginning size modules events in
    running_in (steps k first).state ≡ Some id → RunsSince first k id
