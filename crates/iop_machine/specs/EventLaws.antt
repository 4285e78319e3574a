-- What the laws of the script's events say, and of what comes next where nothing executes.
use Rattle.std.specs.Prelude.{◌≡◌, ◌≢◌, ℕ, ◌<◌, ◌≤◌, false, None, ◌⊎◌, MatchOption, List, [], ◌∷◌, ◌++◌, length, All, Contains}
use Rattle.iop_intr.specs.InterruptLines.{line_of}
use Rattle.iop_script.specs.declared.raise.Raise.{Raise}
use Rattle.iop_time.specs.Laws.{Stands}
use Rattle.iop_time.specs.declared.ticks.TheConstants.{NEVER}
use Rattle.iop_machine.specs.Iop.{Iop}
use Rattle.iop_machine.specs.Looking.{takes_events, next_coming}
use Rattle.iop_machine.specs.Stepping.{step}
use Rattle.iop_machine.specs.World.{World}

-- a step takes the events that are due, and no others
pub record TakesItsEvents (w : World) : Type 0 where
  -- each that is left stood before it, and is of a later tick
  pub taken : (event : Raise) → Contains (step w).state.iop.events event
      → Contains w.iop.events event × (w.iop.kernel.clock < event.at)
  -- and each of a later tick is left
  pub left : (event : Raise) → Contains w.iop.events event → w.iop.kernel.clock < event.at
      → Contains (step w).state.iop.events event

-- so does each step of a machine that was booted and is not stopped: since the clock does not go
-- back, each event is taken by one step alone
abbrev pub StepsTakeTheirEvents : Type 0
StepsTakeTheirEvents = (w : World) → w.is_new ≡ false → w.iop.over ≡ None → TakesItsEvents w

-- an event of a line is due, and none behind it is
abbrev pub IsLastDue : (clock : ℕ) → Raise → (behind : List Raise) → Type 0
IsLastDue clock event behind =
    (event.at ≤ clock) × All (λ e. e.at ≤ clock → e.line ≢ event.line) behind

-- the interrupt lines of the events that are due are raised or lowered, and nothing else changes
pub record ChangesLines (s : Iop) : Type 0 where
  -- the last event of a line says which
  pub last : (before behind : List Raise) (event : Raise) → s.events ≡ before ++ event ∷ behind
      → IsLastDue s.kernel.clock event behind → event.line < length s.kernel.irqs
      → (line_of (takes_events s).kernel.irqs event.line).raised ≡ event.up
  -- of none is it changed whether it is enabled, and its handler
  pub lines : (n : ℕ) → let old = line_of s.kernel.irqs n in
      line_of (takes_events s).kernel.irqs n
      ≡ record old { raised = (line_of (takes_events s).kernel.irqs n).raised }
  -- those of no event that is due are as they were
  pub others : (n : ℕ)
      → ((event : Raise) → Contains s.events event → event.at ≤ s.kernel.clock → event.line ≢ n)
      → line_of (takes_events s).kernel.irqs n ≡ line_of s.kernel.irqs n
  pub rest : (takes_events s).kernel ≡ record s.kernel { irqs = (takes_events s).kernel.irqs }

abbrev pub EventsChangeTheirLines : Type 0
EventsChangeTheirLines = (s : Iop) → ChangesLines s

-- an event, an alarm or a delay comes at this moment, and none earlier
pub record IsNextComing (s : Iop) (moment : ℕ) : Type 0 where
  pub comes : ((event : Raise) × Contains s.events event × (event.at ≡ moment))
      ⊎ ((number : ℕ) × Stands s.kernel.timers moment number)
  pub events : All (λ e. moment ≤ e.at) s.events
  pub moments : (m number : ℕ) → Stands s.kernel.timers m number → m < NEVER → moment ≤ m

-- nothing is still to come
pub record NothingComes (s : Iop) : Type 0 where
  pub events : s.events ≡ []
  pub moments : (m number : ℕ) → Stands s.kernel.timers m number → NEVER ≤ m

-- the clock goes on to the least of all moments that are still to come, and all is quiet only where
-- there is none
abbrev pub NextComingIsLeast : Type 0
NextComingIsLeast = (s : Iop) → MatchOption (next_coming s) (NothingComes s) (IsNextComing s)
