-- Which operations leave the thread that runs, and after which none runs; and that it is the one
-- that calls, where one does.
use Rattle.std.proofs.Common.{◌≡◌, ℕ, true, false, Option, Some, None, refl, sym, ◌∙◌}
use Rattle.iop_exec.specs.declared.cpu.Cpu.{Cpu}
use Rattle.iop_thread.specs.Operations.{terminates, rotates, suspends}
use Rattle.iop_thread.specs.Placing.{IsPlaced}
use Rattle.iop_thread.specs.ThreadTable.{ThreadTable, is_it, has_priority, running_thread}
use Rattle.iop_thread.proofs.Waits.{moves_waits}
use Rattle.iop_kernel.specs.System.{Core, caller, caller_beside, registers_beside}
use Rattle.iop_kernel.specs.declared.active_handler.ActiveHandler.{ActiveHandler}

-- the same thread runs
abbrev pub RunsOn : ThreadTable → ThreadTable → Type 0
RunsOn s t = t.running ≡ s.running

module _ (s : ThreadTable) (placed : IsPlaced s) where
  -- the ready threads of another priority than that of the running one are rotated
  pub running_rotates : (priority : ℕ) (registers : Cpu)
      → has_priority priority (running_thread s) ≡ false → RunsOn s (rotates s priority registers)
  running_rotates priority registers other =
      ((moves_waits s placed).rotates priority registers).running ∙ rw other refl

  -- the running thread is put behind the others
  pub none_rotates : (priority : ℕ) (registers : Cpu)
      → has_priority priority (running_thread s) ≡ true
      → (rotates s priority registers).running ≡ None
  none_rotates priority registers own =
      ((moves_waits s placed).rotates priority registers).running ∙ rw own refl

  -- a thread that does not run is ended
  pub running_terminates : (id : ℕ) → is_it s.running id ≡ false → RunsOn s (terminates s id).1
  running_terminates id other = ((moves_waits s placed).terminates id).running ∙ rw other refl

  -- it is suspended
  pub running_suspends : (id : ℕ) (registers : Cpu) → is_it s.running id ≡ false
      → RunsOn s (suspends s id registers).1
  running_suspends id registers other =
      ((moves_waits s placed).suspends id registers).running ∙ rw other refl

-- by the handler that runs, if one does
runs_beside : (o : Option ActiveHandler) (running : Option ℕ) (id : ℕ)
    → caller_beside o running ≡ Some id → running ≡ Some id
runs_beside None running id calls = calls
runs_beside (Some handler) running id calls = cc calls

-- the thread that calls is the one that runs
pub caller_runs : (c : Core) (id : ℕ) → caller c ≡ Some id → c.kernel.threads.running ≡ Some id
caller_runs c id calls = runs_beside c.kernel.handler c.kernel.threads.running id calls

-- where a handler calls, no thread does
pub no_caller : (c : Core) (handler : ActiveHandler) → c.kernel.handler ≡ Some handler
    → caller c ≡ None
no_caller c handler e = rw e refl

-- where a thread calls, its registers are the processor's
pub registers_by : (c : Core) (id : ℕ) → caller c ≡ Some id → (o : Option ActiveHandler)
    → o ≡ c.kernel.handler → (cpu : Cpu) → registers_beside o cpu ≡ cpu
registers_by c id calls None is cpu = refl
registers_by c id calls (Some handler) is cpu = absurd (cc (calls, no_caller c handler (sym is)))

pub own_registers : (c : Core) (id : ℕ) → caller c ≡ Some id → (cpu : Cpu)
    → registers_beside c.kernel.handler cpu ≡ cpu
own_registers c id calls = registers_by c id calls c.kernel.handler refl
