-- What the laws on runs say.
use Rattle.std.specs.Prelude.{◌≡◌, ◌⊎◌, ℕ, suc, ◌+◌, ◌<◌, ◌≤◌, nat_lt, true, false, filter, Some, None, List, [], ◌∷◌, ◌++◌, All, Contains}
use Rattle.iop_base.specs.Piece.{Piece}
use Rattle.iop_base.specs.Places.{IsRamSize}
use Rattle.iop_base.specs.declared.stop.Stop.{Stop}
use Rattle.iop_base.specs.declared.stop.Stop.TheVariants.{Quiet}
use Rattle.iop_script.specs.declared.raise.Raise.{Raise}
use Rattle.iop_stubs.specs.declared.live_stub.Stub.{Stub}
use Rattle.iop_modload.specs.Laws.{HasBlocks}
use Rattle.iop_objects.specs.Objects.{state_of}
use Rattle.iop_pools.specs.Laws.{Apart}
use Rattle.iop_pools.specs.Pools.{Pool}
use Rattle.iop_machine.specs.Histories.{calls_in}
use Rattle.iop_machine.specs.Events.{CanCome}
use Rattle.iop_machine.specs.Looking.{takes_events, next_coming, at_moment}
use Rattle.iop_kernel.specs.Registers.{IsBare}
use Rattle.iop_machine.specs.Running.{Ends}
use Rattle.iop_machine.specs.Stepping.{step, steps, executes, most_steps, run_of}
use Rattle.iop_machine.specs.World.{World, booted, beginning}
use Rattle.iop_kernel_laws.specs.Histories.{AreCounted, AreDelivered}
use Rattle.iop_kernel.specs.Laws.{IsCore, IsSwitch}
use Rattle.iop_kernel.specs.Deliveries.{Delivered, delivers}
use Rattle.iop_kernel.specs.Dispatching.{Dispatched, dispatches}
use Rattle.iop_kernel.specs.Overdue.{NoMomentHasCome}
use Rattle.iop_kernel.specs.PoolMemory.{PoolsAreSound}
use Rattle.iop_kernel.specs.System.{Core, in_handler, is_active, may_dispatch}
use Rattle.iop_kernel.specs.WaiterPlaces.{HavePlaces}
use Rattle.iop_thread.specs.Laws.{IsSettled}
use Rattle.iop_time.specs.declared.ticks.TheConstants.{NEVER}
use Rattle.iop_machine.specs.Iop.{Iop, silent, core_of, with_core}
use Rattle.iop_machine.specs.Modules.{ModulesLeft}

-- the steps of a run are those of its first part and then those of the rest
abbrev pub StepsCompose : Type 0
StepsCompose =
    (w : World) (k j : ℕ) → steps (k + j) w ≡ record {
      state = (steps j (steps k w).state).state;
      pieces =
          (steps k w).pieces ++ (steps j (steps k w).state).pieces;
      bound =
          (steps k w).bound ++ (steps j (steps k w).state).bound;
    }

-- a run by n instructions and then one by m is one by n + m
abbrev pub RunsCompose : Type 0
RunsCompose =
    (w : World) (n m k j : ℕ) (first second : Stop) → Ends w n k first
    → Ends (steps k w).state m j second → Ends w (n + m) (k + j) second

-- a run has one end
abbrev pub RunsAreDetermined : Type 0
RunsAreDetermined =
    (w : World) (n k j : ℕ) (first second : Stop) → Ends w n k first → Ends w n j second → (k ≡ j)
    × (first ≡ second)

-- what is stopped stays as it is
abbrev pub OverStays : Type 0
OverStays = (w : World) (n k : ℕ) (stop : Stop) → w.iop.over ≡ Some stop → Ends w n 0 stop
    × (steps k w ≡ silent w)

-- what holds of a machine, but for its alarms, its delays and the script's events
pub record IsSoundWorld (w : World) : Type 0 where
  -- its memory is sound, and its blocks are those of that memory
  pub whole : HasBlocks w.iop.memory w.iop.blocks
  -- before it is booted no stub is live
  pub none_live : w.is_new ≡ true → w.iop.memory.live ≡ []
  pub core : IsCore (core_of w.iop)
  -- each thread that waits has a place in memory for what it is told
  pub places : HavePlaces w.iop.memory w.iop.kernel
  -- what is out of each pool is apart and inside of it
  pub pools : PoolsAreSound w.iop.kernel
  -- registers that nobody has are zero
  pub bare : IsBare (core_of w.iop)

-- what holds of every machine
pub record IsMachine (w : World) : Type 0 where
  pub sound : IsSoundWorld w
  -- each alarm and each delay took an instruction
  pub numbers : w.iop.kernel.timers.next ≤ w.iop.kernel.clock + 1
  pub events : CanCome w.iop.events

-- a machine begins as one
abbrev pub RunsBeginAsMachines : Type 0
RunsBeginAsMachines =
    (size : ℕ) (modules : ModulesLeft) (events : List Raise) → IsRamSize size → CanCome events
    → IsMachine (beginning size modules events)

-- and each of its steps leaves one
abbrev pub RunsStayMachines : Type 0
RunsStayMachines = (w : World) (k : ℕ) → IsMachine w → IsMachine (steps k w).state

-- each run of a machine ends, and takes no more steps than that
abbrev pub RunsEnd : Type 0
RunsEnd =
    (w : World) (n : ℕ) → IsMachine w
    → (k : ℕ) × (stop : Stop) × (k < most_steps n w) × Ends w n k stop

-- and is what the function gives
abbrev pub RunsAreComputed : Type 0
RunsAreComputed =
    (w : World) (n k : ℕ) (stop : Stop) → IsMachine w → Ends w n k stop
    → run_of n w ≡ record {
      world = (steps k w).state;
      pieces = (steps k w).pieces;
      stop =
          stop;
    }

-- what holds in each state that a machine reaches which has bound these stubs on the way
pub record StaysSound (stubs : List Stub) (s : Iop) : Type 0 where
  pub whole : HasBlocks s.memory s.blocks
  -- each live stub is one that a linking has bound
  pub live : (stub : Stub) → Contains s.memory.live stub → Contains stubs stub
  -- threads stand where their states say; where none runs, another may; outside a delay slot the
  -- next instruction of each is the one behind; what is pending of a load is for a register but 0,
  -- and nothing is pending where a thread waits
  pub core : IsCore (core_of s)
  -- registers that nobody has are zero
  pub bare : IsBare (core_of s)
  -- each thread that waits has a place for what it is told
  pub places : HavePlaces s.memory s.kernel
  -- no two ranges of memory that are out of a pool meet, and all are inside of it
  pub variable_pools : (id : ℕ) (x : Pool) → state_of s.kernel.variable_pools id ≡ Some x → Apart x
  pub fixed_pools : (id : ℕ) (x : Pool) → state_of s.kernel.fixed_pools id ≡ Some x → Apart x

abbrev pub RunsStaySound : Type 0
RunsStaySound =
    (size : ℕ) (modules : ModulesLeft) (events : List Raise) (k : ℕ) → IsRamSize size
    → let run = steps k (beginning size modules events) in StaysSound run.bound run.state.iop

-- the step leaves the kernel and the processor so, and all else as the script's events that are due
-- left it; it tells this line alone, and binds no stub
pub record StepsTo (w : World) (core : Core) (line : Piece) : Type 0 where
  pub state : (step w).state ≡ booted (with_core (takes_events w.iop) core)
  pub pieces : (step w).pieces ≡ line ∷ []
  pub bound : (step w).bound ≡ []

-- what the next step of a run shows of its threads, behind the script's events that are due
pub record IsStrict (w : World) : Type 0 where
  -- where something is delivered, the step delivers it, and tells its line
  pub delivery : (d : Delivered) → delivers (core_of (takes_events w.iop)) ≡ Some d
      → StepsTo w d.core d.line
  -- where a thread is dispatched, nothing is to be delivered, it is the first of the best priority,
  -- and the step dispatches it, and tells its `run` line
  pub switch : (d : Dispatched) → delivers (core_of (takes_events w.iop)) ≡ None
      → dispatches (core_of (takes_events w.iop)) ≡ Some d
      → IsSwitch (core_of (takes_events w.iop)) d × StepsTo w d.core d.line
  -- where a thread executes an instruction while another may run, no ready one is better
  pub settled : executes w ≡ true → may_dispatch (takes_events w.iop).kernel ≡ true
      → IsSettled (takes_events w.iop).kernel.threads

-- in each state that a run reaches and in which it goes on
abbrev pub RunsAreStrict : Type 0
RunsAreStrict =
    (size : ℕ) (modules : ModulesLeft) (events : List Raise) (k : ℕ) → IsRamSize size
    → let run = steps (suc k) (beginning size modules events) in
    run.state.iop.over ≡ None → IsStrict run.state

-- where the next step executes an instruction of a thread, outside a delay slot and while
-- interrupts are on, no alarm and no delay has come
abbrev pub IsOnTime : World → Type 0
IsOnTime w =
    let s = takes_events w.iop in
    executes w ≡ true → in_handler s.kernel ≡ false → s.kernel.interrupts ≡ true
    → s.cpu.in_slot ≡ false → NoMomentHasCome s.kernel

-- in each state
abbrev pub RunsAreOnTime : Type 0
RunsAreOnTime = (w : World) → IsOnTime w

-- what the next step of a run does where nothing executes, if the script's events that are due
-- leave this state
pub record IsAwake (w : World) (s : Iop) : Type 0 where
  -- nothing executes only while interrupts are on and dispatch is enabled
  pub switches : is_active s.kernel ≡ false → may_dispatch s.kernel ≡ true
  -- what comes next, if something does, is later than now
  pub later : is_active s.kernel ≡ false → delivers (core_of s) ≡ None → (moment : ℕ)
      → next_coming s ≡ Some moment → (s.kernel.clock < moment) × (moment < NEVER)
  -- where nothing is delivered or dispatched, the step lets the clock go on to what comes next
  pub goes_on : is_active s.kernel ≡ false → delivers (core_of s) ≡ None
      → dispatches (core_of s) ≡ None → (moment : ℕ) → next_coming s ≡ Some moment
      → step w ≡ silent (booted (at_moment s moment))
  -- and where nothing comes, all is quiet
  pub ends : is_active s.kernel ≡ false → delivers (core_of s) ≡ None
      → dispatches (core_of s) ≡ None → next_coming s ≡ None
      → step w ≡ silent (booted (record s { over = Some Quiet }))

-- in each state that a run reaches and in which it goes on
abbrev pub RunsAreAwake : Type 0
RunsAreAwake =
    (size : ℕ) (modules : ModulesLeft) (events : List Raise) (k : ℕ) → IsRamSize size
    → CanCome events → let run = steps (suc k) (beginning size modules events) in
    run.state.iop.over ≡ None → IsAwake run.state (takes_events run.state.iop)

-- each event of the script is taken once, in the first step at its tick or behind it: those that
-- are still to come are the ones of later ticks, but for those of ticks that no step has begun at
pub record KeepsEvents (events : List Raise) (s : Iop) : Type 0 where
  pub taken : All (λ e. s.kernel.clock < e.at) (takes_events s).events
  -- none is left out
  pub later : (event : Raise) → Contains events event → s.kernel.clock < event.at
      → Contains s.events event
  -- and none is new
  pub stood : (event : Raise) → Contains s.events event → Contains events event
  -- they stand as in the script: all of them, or those that are later than some moment
  pub order : (s.events ≡ events)
      ⊎ ((moment : ℕ) × (s.events ≡ filter (λ e. nat_lt moment e.at) events))

abbrev pub RunsKeepEvents : Type 0
RunsKeepEvents =
    (size : ℕ) (modules : ModulesLeft) (events : List Raise) (k : ℕ)
    → KeepsEvents events (steps k (beginning size modules events)).state.iop

-- in each state that a run reaches, the count of each live semaphore is what its first count and
-- the calls of the run so far have made of it, and at most its most
abbrev pub RunsAreCounted : Type 0
RunsAreCounted =
    (size : ℕ) (modules : ModulesLeft) (events : List Raise) (k : ℕ) → IsRamSize size
    → let world = beginning size modules events in
    AreCounted (steps k world).state.iop.kernel.semaphores (calls_in k world)

-- and each message that was sent to a live mailbox was received from it or is queued, as often, in
-- order where messages are not taken by their priority
abbrev pub RunsAreDelivered : Type 0
RunsAreDelivered =
    (size : ℕ) (modules : ModulesLeft) (events : List Raise) (k : ℕ) → IsRamSize size
    → let world = beginning size modules events in
    AreDelivered (steps k world).state.iop.kernel.mailboxes (calls_in k world)
