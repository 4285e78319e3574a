-- What one call of `advance` did of a run.
use Rattle.std.specs.Prelude.{◌≡◌, ℕ, suc, ◌+◌, ◌-◌, ◌*◌, ◌<◌, not, Bool, true, false, ⊤, Option, Some, None, is_some, [], length}
use Rattle.iop_base.specs.Numbers.{one_if}
use Rattle.iop_base.specs.Output.{Output, Gives}
use Rattle.iop_base.specs.declared.stop.Stop.{Stop}
use Rattle.iop_kernel.specs.Deliveries.{delivers}
use Rattle.iop_kernel.specs.Dispatching.{dispatches}
use Rattle.iop_time.specs.declared.ticks.TheConstants.{NEVER}
use Rattle.iop_kernel.specs.declared.kernel.Kernel.{Kernel}
use Rattle.iop_machine.specs.Looking.{takes_events}
use Rattle.iop_machine.specs.declared.progress.Progress.{Progress}
use Rattle.iop_machine.specs.declared.progress.Progress.TheVariants.{Stopped, Advanced}
use Rattle.iop_machine.specs.Iop.{core_of}
use Rattle.iop_machine.specs.Running.{GoesOnFor}
use Rattle.iop_machine.specs.Stepping.{step, steps, executed, stop_at, most_between}
use Rattle.iop_machine.specs.World.{World}

module _ {P : Type 0} (stands_for : P → World → Type 0) where
  -- k steps were taken, in none of which a write failed, and so many instructions of the budget are left
  pub record Reached (w : World) (budget k left : ℕ) (now : P) (old new : Output) : Type 0 where
    pub before : GoesOnFor w budget k
    pub state : stands_for now (steps k w).state
    pub gives : Gives old new (steps k w).pieces
    pub well : new.failed ≡ false
    pub left_is : left + executed k w ≡ budget

  -- k steps were taken, in which no write failed, and then one more, in which one may have failed
  pub record Advances (w : World) (budget k left : ℕ) (now : P) (old new : Output) : Type 0 where
    pub before : GoesOnFor w budget (suc k)
    pub state : stands_for now (steps (suc k) w).state
    pub left_is : left + executed (suc k) w ≡ budget
    -- what was seen after the k steps
    pub seen : Output
    pub first : Gives old seen (steps k w).pieces
    pub well : seen.failed ≡ false
    pub last : Gives seen new (step (steps k w).state).pieces

  -- the run stops after k steps
  pub record Stops (w : World) (budget k : ℕ) (stop : Stop) (now : P) (old new : Output)
      : Type 0 where
    pub left : ℕ
    pub reached : Reached w budget k left now old new
    pub stops : stop_at (steps k w).state left ≡ Some stop

  -- one step was taken, which executes no instruction, and in which a write may have failed
  abbrev pub AdvancesOnce : World → ℕ → P → Output → Output → Type 0
  AdvancesOnce w budget now old new = Advances w budget 0 budget now old new

  -- whether something was delivered; if not, nothing is to be
  abbrev pub Delivers : (did : Bool) → World → ℕ → P → Output → Output → Type 0
  Delivers true w budget now old new =
      AdvancesOnce w budget now old new
      × (is_some (delivers (core_of (takes_events w.iop))) ≡ true)
  Delivers false w budget now old new =
      stands_for now w × Gives old new [] × (delivers (core_of (takes_events w.iop)) ≡ None)

  -- whether a thread was dispatched, where nothing is to be delivered; if not, none is to be
  abbrev pub Dispatches : (did : Bool) → World → ℕ → P → Output → Output → Type 0
  Dispatches true w budget now old new =
      AdvancesOnce w budget now old new
      × (is_some (dispatches (core_of (takes_events w.iop))) ≡ true)
  Dispatches false w budget now old new =
      stands_for now w × Gives old new [] × (dispatches (core_of (takes_events w.iop)) ≡ None)

  -- so many steps were taken, which executed no instruction, and nothing is to be delivered or
  -- dispatched behind them; nothing of the kernel changed but its threads and its lines
  pub record IsSettled (w : World) (budget k : ℕ) (now : P) (old new : Output) : Type 0 where
    pub reached : Reached w budget k budget now old new
    pub over : (steps k w).state.iop.over ≡ None
    pub delivery : delivers (core_of (takes_events (steps k w).state.iop)) ≡ None
    pub dispatch : dispatches (core_of (takes_events (steps k w).state.iop)) ≡ None
    pub kernel : (steps k w).state.iop.kernel
        ≡ record w.iop.kernel {
          threads = (steps k w).state.iop.kernel.threads;
          irqs = (steps k w).state.iop.kernel.irqs;
        }

  -- whether the run went on, by a delivery or by a dispatch in which a write failed
  abbrev pub Settles : (went : Bool) → World → ℕ → P → Output → Output → Type 0
  Settles true w budget now old new = (k : ℕ) × Advances w budget k budget now old new
  Settles false w budget now old new = (k : ℕ) × IsSettled w budget k now old new

  -- by how far the run got with so much of its budget
  abbrev pub Progresses : Progress → World → ℕ → P → Output → Output → Type 0
  Progresses (Stopped stop) w budget now old new = (k : ℕ) × Stops w budget k stop now old new
  Progresses (Advanced left) w budget now old new = (k : ℕ) × Advances w budget k left now old new

-- how many calls of `advance` at most boot it or find that nothing is left to do
abbrev pub turns_by : Option Stop → (is_new : Bool) → ℕ
turns_by (Some stop) is_new = 0
turns_by None true = 2
turns_by None false = 1

module _ {R : Type 0} where
  -- how many deliveries at most are made before a handler is active or none is left: one for each
  -- delay, and one more unless a handler is active
  abbrev pub deliveries_left : Kernel R → ℕ
  deliveries_left k = length k.timers.delays + one_if (not (is_some k.handler))

  -- how many calls at most execute no instruction from here on, if none is executed: the clock goes
  -- on, at most to 2^63 - 1, and at each moment so much is delivered
  abbrev pub calls_by : Option Stop → (is_new : Bool) → Kernel R → ℕ
  calls_by over is_new k =
      turns_by over is_new + deliveries_left k + most_between * (NEVER - k.clock)

  -- unless a write failed, a call that advanced left fewer instructions or fewer such calls
  abbrev pub IsLess : Progress → (failed : Bool) → Option Stop → (is_new : Bool) → Kernel R
      → (most : ℕ) → Type 0
  IsLess (Stopped stop) failed over is_new k most = ⊤
  IsLess (Advanced left) true over is_new k most = ⊤
  IsLess (Advanced left) false over is_new k most =
      most_between * left + calls_by over is_new k < most
