-- What the runs of a machine give: this project's profile.
use Rattle.std.specs.Prelude.{◌≡◌, ℕ, suc, ◌+◌, ◌-◌, ◌^◌, ◌<◌, max, Bool, true, false, Some, None, Result, Ok, List, [], ◌∷◌, ◌++◌, All}
use Rattle.iop_base.specs.Piece.{Piece, IsPartOf}
use Rattle.iop_base.specs.Output.{Output, Adds, HasNoFault, FailsAt}
use Rattle.iop_base.specs.declared.stop.Stop.{Stop}
use Rattle.iop_base.specs.declared.stop.Stop.TheVariants.{Budget}
use Rattle.iop_base.specs.declared.write_fault.WriteFault.{WriteFault}
use Rattle.iop_exec.specs.declared.cpu.Cpu.{Cpu}
use Rattle.iop_kernel.specs.Deliveries.{delivers}
use Rattle.iop_kernel.specs.Dispatching.{dispatches}
use Rattle.iop_kernel.specs.System.{is_active}
use Rattle.iop_time.specs.declared.ticks.TheConstants.{NEVER}
use Rattle.iop_machine.specs.Iop.{Iop, core_of}
use Rattle.iop_machine.specs.Looking.{moved}
use Rattle.iop_machine.specs.Stepping.{step, steps, executed, stop_at}
use Rattle.iop_machine.specs.World.{World}

-- a thread runs or a handler is active, and nothing else is to be done first
pub record Runs (s : Iop) : Type 0 where
  pub over : s.over ≡ None
  -- no event is due
  pub events : All (λ e. s.kernel.clock < e.at) s.events
  pub delivery : delivers (core_of s) ≡ None
  pub dispatch : dispatches (core_of s) ≡ None
  pub active : is_active s.kernel ≡ true

-- nor is it before any of so many instructions, as long as they are plain, whatever the processor
-- is like by then
pub record RunsFor (s : Iop) (most : ℕ) : Type 0 where
  pub now : Runs s
  pub ahead : (cpu : Cpu) (moment : ℕ) → s.kernel.clock < moment
      → moment < s.kernel.clock + most → Runs (moved s cpu moment)

-- whether a run ended with its budget
abbrev pub is_by_budget : Result Stop WriteFault → Bool
is_by_budget (Ok Budget) = true
is_by_budget other = false

-- there is time for a run by so many instructions, also where the clock goes on to the last moment
-- that comes: neither it nor the count of alarms and delays passes 2^64
abbrev pub HasTime : (clock budget : ℕ) → Type 0
HasTime clock budget = max clock (NEVER - 1) + budget < 2 ^ 64 - 1

-- after k steps the run goes on
abbrev pub GoesOn : World → ℕ → ℕ → Type 0
GoesOn w budget k = stop_at (steps k w).state (budget - executed k w) ≡ None

-- the run takes k steps at least
abbrev pub GoesOnFor : World → ℕ → ℕ → Type 0
GoesOnFor w budget k = (j : ℕ) → j < k → GoesOn w budget j

-- the run takes k steps, and stops for this reason
pub record Ends (w : World) (budget k : ℕ) (stop : Stop) : Type 0 where
  pub before : GoesOnFor w budget k
  pub now : stop_at (steps k w).state (budget - executed k w) ≡ Some stop

-- the sinks got what the whole run gives, and no write failed
pub record Finishes (w : World) (budget k : ℕ) (stop : Stop) (old new : Output) : Type 0 where
  pub ends : Ends w budget k stop
  pub adds : Adds old new (steps k w).pieces
  pub no_fault : HasNoFault old new

-- the k steps' pieces are there, and then a piece of the next step failed, of which a part is there
pub record Faults (w : World) (budget k : ℕ) (old new : Output) : Type 0 where
  pub before : GoesOnFor w budget (suc k)
  pub sent : List Piece
  pub part : Piece
  pub piece : Piece
  pub unsent : List Piece
  pub pieces_are : (step (steps k w).state).pieces ≡ sent ++ piece ∷ unsent
  pub is_part : IsPartOf part piece
  pub adds : Adds old new ((steps k w).pieces ++ sent ++ part ∷ [])
  pub fails : FailsAt piece old new
