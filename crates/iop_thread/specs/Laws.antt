-- What the laws of the operations say.
use Rattle.std.specs.Prelude.{◌≡◌, ℕ, ◌<◌, ◌≤◌, Some, None, IfSome, option_map, List, [], ◌∷◌, ◌++◌, All, ⊤}
use Rattle.iop_exec.specs.declared.cpu.Cpu.{Cpu}
use Rattle.iop_exec.specs.Laws.{IsSteady}
use Rattle.iop_exec.specs.Processors.{IsStraight}
use Rattle.iop_thread.specs.declared.param.Param.{Param}
use Rattle.iop_thread.specs.declared.wait.Wait.{Wait}
use Rattle.iop_thread.specs.declared.wait.Wait.TheVariants.{Sleep}
use Rattle.iop_thread.specs.Operations.{Dispatch, opening, creates, deletes, starts, begins, ends_running, terminates, changes, rotates, blocks, wakes, suspends, resumes, wakes_up, cancels, takes_wakeup, dispatches}
use Rattle.iop_thread.specs.Placing.{IsPlaced}
use Rattle.iop_thread.specs.States.{wait_in}
use Rattle.iop_thread.specs.ThreadTable.{ThreadTable, thread_of, priority_of, running_thread}
use Rattle.iop_thread.specs.declared.state.State.{State}
use Rattle.iop_thread.specs.declared.state.State.TheVariants.{Ready, Waiting, Suspended, WaitingSuspended}
use Rattle.iop_thread.specs.declared.thread.Thread.{Thread}

module _ (P : ThreadTable → Type 0) (MayHave : Cpu → Type 0)
    (MayWait : ThreadTable → Wait → Cpu → Type 0) where
  -- each operation leaves what holds of the threads, if the registers and the wait may be that it
  -- is given; a thread that is dispatched goes on with such registers
  pub record Keeps (s : ThreadTable) : Type 0 where
    pub creates : (param : Param) (stack gp : ℕ) → P (creates s param stack gp).1
    pub deletes : (id : ℕ) → P (deletes s id).1
    pub starts : (id argument : ℕ) → P (starts s id argument).1
    pub begins : (registers : Cpu) → MayHave registers → P (begins s registers)
    pub ends_running : P (ends_running s)
    pub terminates : (id : ℕ) → P (terminates s id).1
    pub changes : (id priority : ℕ) → P (changes s id priority).1
    pub rotates : (priority : ℕ) (registers : Cpu) → MayHave registers
        → P (rotates s priority registers)
    pub blocks : (wait : Wait) (registers : Cpu) → MayHave registers → MayWait s wait registers
        → P (blocks s wait registers)
    pub wakes : (id answer : ℕ) → P (wakes s id answer)
    pub suspends : (id : ℕ) (registers : Cpu) → MayHave registers → P (suspends s id registers).1
    pub resumes : (id : ℕ) → P (resumes s id).1
    pub wakes_up : (id : ℕ) → P (wakes_up s id).1
    pub cancels : (id : ℕ) → P (cancels s id).1
    pub takes_wakeup : P (takes_wakeup s).1
    pub dispatches : (registers : Cpu) (d : Dispatch) → MayHave registers
        → dispatches s registers ≡ Some d → P d.threads × MayHave d.registers

  -- it holds at first, and after each operation
  pub record OperationsKeep : Type 0 where
    pub opening : P opening
    pub keeps : (s : ThreadTable) → P s → Keeps s

-- where an operation may be given any registers, and any wait
abbrev pub AnyRegisters : Cpu → Type 0
AnyRegisters registers = ⊤

abbrev pub AnyWait : ThreadTable → Wait → Cpu → Type 0
AnyWait s wait registers = ⊤

-- threads stay placed
abbrev pub KeepsPlaces : ThreadTable → Type 0
KeepsPlaces = Keeps IsPlaced AnyRegisters AnyWait

abbrev pub OperationsKeepPlaces : Type 0
OperationsKeepPlaces = OperationsKeep IsPlaced AnyRegisters AnyWait

module _ (P Waits : Cpu → Type 0) where
  -- `P` holds of the registers that a thread keeps in its state, and `Waits` too where it waits
  abbrev pub KeptBy : State → Type 0
  KeptBy (Ready own) = P own
  KeptBy (Waiting wait own) = P own × Waits own
  KeptBy (Suspended own) = P own
  KeptBy (WaitingSuspended wait own) = P own × Waits own
  KeptBy other = ⊤

-- outside a delay slot the next instruction of each thread is the one behind
abbrev pub AreStraight : ThreadTable → Type 0
AreStraight s = All (λ t. KeptBy IsStraight AnyRegisters t.state) s.live

abbrev pub KeepsStraight : ThreadTable → Type 0
KeepsStraight = Keeps AreStraight IsStraight AnyWait

abbrev pub OperationsKeepStraight : Type 0
OperationsKeepStraight = OperationsKeep AreStraight IsStraight AnyWait

-- what a thread keeps in its state is steady; where it waits nothing is pending, since it waits
-- behind a `syscall`
abbrev pub IsSteadyIn : State → Type 0
IsSteadyIn = KeptBy IsSteady (λ registers. registers.pending ≡ None)

abbrev pub AreSteady : ThreadTable → Type 0
AreSteady s = All (λ t. IsSteadyIn t.state) s.live

-- a thread may wait where nothing is pending
abbrev pub MayWaitSteadily : ThreadTable → Wait → Cpu → Type 0
MayWaitSteadily s wait registers = registers.pending ≡ None

abbrev pub KeepsSteady : ThreadTable → Type 0
KeepsSteady = Keeps AreSteady IsSteady MayWaitSteadily

abbrev pub OperationsKeepSteady : Type 0
OperationsKeepSteady = OperationsKeep AreSteady IsSteady MayWaitSteadily

-- a thread that sleeps has no wakeups
abbrev pub SleepersAreUnwoken : ThreadTable → Type 0
SleepersAreUnwoken s = All (λ t. wait_in t.state ≡ Some Sleep → t.wakeups ≡ 0) s.live

-- the running thread may sleep if it has none
abbrev pub MayWaitSo : ThreadTable → Wait → Cpu → Type 0
MayWaitSo s wait registers = wait ≡ Sleep → IfSome (running_thread s) (λ t. t.wakeups ≡ 0)

abbrev pub KeepsSleepers : ThreadTable → Type 0
KeepsSleepers = Keeps SleepersAreUnwoken AnyRegisters MayWaitSo

abbrev pub OperationsKeepSleepers : Type 0
OperationsKeepSleepers = OperationsKeep SleepersAreUnwoken AnyRegisters MayWaitSo

-- a thread is the first among those of the least priority number
pub record IsBest (s : ThreadTable) (t : Thread) : Type 0 where
  pub before : List ℕ
  pub after : List ℕ
  pub found : thread_of s.live t.id ≡ Some t
  pub ready : s.ready ≡ before ++ t.id ∷ after
  pub first : All (λ id. t.priority < priority_of s.live id) before
  pub least : All (λ id. t.priority ≤ priority_of s.live id) after

-- the thread that is dispatched is the best of the ready ones, and better than the one that ran; it
-- is then the one that runs, with the registers that it had kept
pub record IsDispatched (s : ThreadTable) (given : Cpu) (d : Dispatch) : Type 0 where
  pub thread : Thread
  pub best : IsBest s thread
  pub id : d.id ≡ thread.id
  pub kept : thread.state ≡ Ready d.registers
  pub runs : d.threads.running ≡ Some thread.id
  pub better : (r : ℕ) → s.running ≡ Some r → thread.priority < priority_of s.live r
  -- that one is then the first of the ready ones, with the registers that are given; all others
  -- stand as they did
  pub gave_way : (r : ℕ) → s.running ≡ Some r → d.threads.ready ≡ r ∷ best.before ++ best.after
  pub keeps : (r : ℕ) → s.running ≡ Some r
      → option_map (λ t. t.state) (thread_of d.threads.live r) ≡ Some (Ready given)
  pub others : s.running ≡ None → d.threads.ready ≡ best.before ++ best.after
  -- and after it no other is to be dispatched
  pub settled : (registers : Cpu) → dispatches d.threads registers ≡ None

-- where none is dispatched, no ready thread is better than the one that runs; where none runs, none
-- is ready
pub record IsSettled (s : ThreadTable) : Type 0 where
  pub best : (r : ℕ) → s.running ≡ Some r
      → All (λ id. priority_of s.live r ≤ priority_of s.live id) s.ready
  pub idle : s.running ≡ None → s.ready ≡ []

pub record DispatchIsStrict : Type 0 where
  pub dispatched : (s : ThreadTable) (registers : Cpu) (d : Dispatch) → IsPlaced s
      → dispatches s registers ≡ Some d → IsDispatched s registers d
  pub settled : (s : ThreadTable) (registers : Cpu) → IsPlaced s
      → dispatches s registers ≡ None → IsSettled s
