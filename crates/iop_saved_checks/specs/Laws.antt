-- What the law of kernels that agree says.
use Rattle.std.specs.Prelude.{◌≡◌, true, None, All, length}
use Rattle.iop_exec.specs.declared.cpu.Cpu.{Cpu}
use Rattle.iop_kernel.specs.Dispatching.{dispatches}
use Rattle.iop_kernel.specs.Kinds.{table}
use Rattle.iop_kernel.specs.Laws.{IsAwake, IsCore}
use Rattle.iop_kernel.specs.Overdue.{NoneOverdue}
use Rattle.iop_kernel.specs.Placing.{IsPlaced}
use Rattle.iop_kernel.specs.PoolMemory.{PoolsAreSound}
use Rattle.iop_kernel.specs.Standing.{core}
use Rattle.iop_kernel.specs.System.{Kernel, Core}
use Rattle.iop_kernel.specs.WaiterPlaces.{HavePlaces}
use Rattle.iop_objects.specs.Objects.{AreObjects}
use Rattle.iop_pools.specs.FixedRestoring as fixed_pools
use Rattle.iop_pools.specs.VariableRestoring as variable_pools
use Rattle.iop_stubs.specs.Stubs.{Memory}
use Rattle.iop_thread.specs.Laws.{KeptBy, AnyRegisters}
use Rattle.iop_thread.specs.Placing as threads
use Rattle.iop_thread.specs.declared.kind.Kind.{Kind}
use Rattle.iop_thread.specs.declared.state.State.{State}
use Rattle.iop_time.specs.Timers.{AreTimers}
use Rattle.iop_saved_kernel.specs.Laws.{CanBeBack, IsSteadyCore}
use Rattle.iop_saved_checks.specs.Kernels.{agrees}
use Rattle.iop_saved_checks.specs.Made.{AreMade}

abbrev pub HasLoaded : State → Type 0
HasLoaded = KeptBy AnyRegisters (λ registers. registers.pending ≡ None)

-- what each table of a kernel keeps by itself
pub record TablesAreSound (k : Kernel) : Type 0 where
  pub threads : threads.IsPlaced k.threads
  pub objects : (kind : Kind) → AreObjects (table kind k)
  pub pools : PoolsAreSound k
  pub timers : AreTimers k.timers

-- what holds of a kernel and of memory wherever the budget of a run ends
pub record IsInAgreement (memory : Memory) (k : Kernel) : Type 0 where
  -- each thread that waits is among the waiters of its object or has a delay, and no other is
  pub placed : IsPlaced k
  -- no wait is overdue
  pub overdue : NoneOverdue k
  -- nothing is pending of a load where a thread waits
  pub loaded : All (λ t. HasLoaded t.state) k.threads.live
  -- where no thread runs, another may
  pub awake : k.threads.running ≡ None → IsAwake k
  -- each thread that waits has a place for what it is told
  pub places : HavePlaces memory k
  -- no thread is to be dispatched
  pub settled : (cpu : Cpu) → dispatches (core k cpu) ≡ None
  -- and threads and pools are such as calls make them
  pub made : AreMade (length memory.ram) k

-- so it is where sound tables agree
abbrev pub AgreeingKernelsAreSound : Type 0
AgreeingKernelsAreSound =
    (memory : Memory) (k : Kernel) → TablesAreSound k → agrees memory k ≡ true
    → IsInAgreement memory k

-- the tables of a kernel are as they can be put back
pub record TablesAreRegular (k : Kernel) : Type 0 where
  pub sound : TablesAreSound k
  pub variable_pools : All variable_pools.IsRegular k.variable_pools.live
  pub fixed_pools : All fixed_pools.IsRegular k.fixed_pools.live

-- and the tables of each kernel that is so agree, where its pools can be put back
abbrev pub SoundKernelsAgree : Type 0
SoundKernelsAgree =
    (memory : Memory) (k : Kernel) → TablesAreRegular k → IsInAgreement memory k
    → agrees memory k ≡ true

-- what holds of a kernel, its processor and memory wherever the budget of a run ends
pub record IsAsInRuns (memory : Memory) (c : Core) : Type 0 where
  pub core : IsCore c
  pub places : HavePlaces memory c.kernel
  pub pools : PoolsAreSound c.kernel
  -- no thread is to be dispatched
  pub settled : dispatches c ≡ None
  -- and threads and pools are such as calls make them
  pub made : AreMade (length memory.ram) c.kernel

-- so it is with what was read and put back, where its tables agree
abbrev pub AgreeingCoresAreSound : Type 0
AgreeingCoresAreSound =
    (memory : Memory) (c : Core) → CanBeBack c → IsSteadyCore c → agrees memory c.kernel ≡ true
    → IsAsInRuns memory c

-- and what can be put back of such a kernel passes the test
abbrev pub CoresInRunsAgree : Type 0
CoresInRunsAgree =
    (memory : Memory) (c : Core) → CanBeBack c → IsAsInRuns memory c
    → agrees memory c.kernel ≡ true
