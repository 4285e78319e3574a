-- What holds of threads holds after each operation that services make of them.
use Rattle.std.proofs.Common.{◌≡◌, ℕ, ◌==◌, false, Option, Some, None, List}
use Rattle.iop_exec.specs.declared.cpu.Cpu.{Cpu}
use Rattle.iop_kernel.specs.System.{caller_beside}
use Rattle.iop_kernel.specs.declared.active_handler.ActiveHandler.{ActiveHandler}
use Rattle.iop_ready.specs.Priorities.{IsPriority}
use Rattle.iop_thread.specs.Operations.{deletes, starts, ends_running, terminates, changes, rotates, blocks, wakes, suspends, resumes, wakes_up, cancels, takes_wakeup}
use Rattle.iop_thread.specs.ThreadTable.{ThreadTable}
use Rattle.iop_thread.specs.declared.thread.TheConstants.{LOADER}
use Rattle.iop_thread.specs.declared.thread.Thread.{Thread}
use Rattle.iop_thread.specs.declared.wait.Wait.{Wait}
use Rattle.iop_resumable.proofs.LiveThreads.{Stays, still_have}

module _ (Of : ThreadTable → Type 0) where
  -- no service starts, ends or deletes the loader's thread
  pub record StillOf (s : ThreadTable) : Type 0 where
    pub deletes : (id : ℕ) → (id == LOADER) ≡ false → Of (deletes s id).1
    pub starts : (id argument : ℕ) → (id == LOADER) ≡ false → Of (starts s id argument).1
    pub ends_running : (id : ℕ) → s.running ≡ Some id → (id == LOADER) ≡ false
        → Of (ends_running s)
    pub terminates : (id : ℕ) → (id == LOADER) ≡ false → Of (terminates s id).1
    pub changes : (id priority : ℕ) → IsPriority priority → Of (changes s id priority).1
    pub rotates : (priority : ℕ) (registers : Cpu) → Of (rotates s priority registers)
    pub blocks : (wait : Wait) (registers : Cpu) → Of (blocks s wait registers)
    pub wakes : (id answer : ℕ) → Of (wakes s id answer)
    pub suspends : (id : ℕ) (registers : Cpu) → Of (suspends s id registers).1
    pub resumes : (id : ℕ) → Of (resumes s id).1
    pub wakes_up : (id : ℕ) → Of (wakes_up s id).1
    pub cancels : (id : ℕ) → Of (cancels s id).1
    pub takes_wakeup : Of (takes_wakeup s).1

  -- as long as it holds
  abbrev pub Lasts : Type 0
  Lasts = (s : ThreadTable) → Of s → StillOf s

-- so it is of what holds of the live ones
pub live_last : (Have : List Thread → Type 0) (Has : Thread → Type 0) → Stays Have Has
    → Lasts (λ s. Have s.live)
live_last Have Has stays s all = let still = still_have Have Has stays s all in record {
  deletes = still.deletes;
  starts = λ id argument other. still.starts id argument;
  ends_running = λ id runs other. still.ends_running;
  terminates = λ id other. still.terminates id;
  changes = still.changes;
  rotates = still.rotates;
  blocks = still.blocks;
  wakes = still.wakes;
  suspends = still.suspends;
  resumes = still.resumes;
  wakes_up = still.wakes_up;
  cancels = still.cancels;
  takes_wakeup = still.takes_wakeup;
}

-- a thread that calls runs
pub called_runs : (o : Option ActiveHandler) (running : Option ℕ) (id : ℕ)
    → caller_beside o running ≡ Some id → running ≡ Some id
called_runs None running id calls = calls
called_runs (Some handler) running id calls = absurd (cc calls)
