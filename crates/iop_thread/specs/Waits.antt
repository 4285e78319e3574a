-- Which threads are live, what each waits for, and which one runs, after each operation: a law (ps2sdk:
-- thbase).
use Rattle.std.specs.Prelude.{◌≡◌, ℕ, ◌==◌, ◌&&◌, ◌||◌, not, Bool, is_ok, is_some, if◌then◌else◌, option_and_then, Option, Some, None}
use Rattle.iop_exec.specs.declared.cpu.Cpu.{Cpu}
use Rattle.iop_thread.specs.declared.param.Param.{Param}
use Rattle.iop_thread.specs.declared.wait.Wait.{Wait}
use Rattle.iop_thread.specs.Operations.{Dispatch, creates, deletes, starts, begins, ends_running, terminates, changes, rotates, blocks, wakes, suspends, resumes, wakes_up, cancels, takes_wakeup, dispatches}
use Rattle.iop_thread.specs.Placing.{IsPlaced}
use Rattle.iop_thread.specs.States.{wait_in, sleeps}
use Rattle.iop_thread.specs.ThreadTable.{ThreadTable, thread_of, is_it, has_priority, running_thread}

-- whether an id is that of a live thread
abbrev pub is_live : ThreadTable → ℕ → Bool
is_live s id = is_some (thread_of s.live id)

-- what the thread of an id waits for
abbrev pub wait_of : ThreadTable → ℕ → Option Wait
wait_of s id = option_and_then (λ t. wait_in t.state) (thread_of s.live id)

-- which threads are live, what each waits for, and which one runs
pub record Shows (s : ThreadTable) (live_after : ℕ → Bool) (wait_after : ℕ → Option Wait)
    (running_after : Option ℕ) : Type 0 where
  pub live : (id : ℕ) → is_live s id ≡ live_after id
  pub waits : (id : ℕ) → wait_of s id ≡ wait_after id
  pub running : s.running ≡ running_after

-- the same threads are live, and each waits for what it did
abbrev pub WaitOn : (s left : ThreadTable) (running : Option ℕ) → Type 0
WaitOn s left running = Shows left (is_live s) (wait_of s) running

-- the same are live; that of this id, if there is one, waits for this, each other for what it did
abbrev pub WaitBut : (s left : ThreadTable) (at : Option ℕ) → Option Wait → (running : Option ℕ)
    → Type 0
WaitBut s left at wait running =
    Shows left (is_live s) (λ id. if is_it at id then wait else wait_of s id) running

-- the running thread, unless it is that of this id
abbrev pub running_but : ThreadTable → ℕ → Option ℕ
running_but s id = if is_it s.running id then None else s.running

-- what a thread waits for after a wakeup, which ends sleep alone
abbrev pub after_wakeup : Option Wait → Option Wait
after_wakeup wait = if sleeps wait then None else wait

pub record MovesWaits (s : ThreadTable) : Type 0 where
  -- the next id is that of a live thread exactly where it is answered
  pub creates : (param : Param) (stack gp : ℕ) → let done = creates s param stack gp in
      Shows done.1 (λ id. is_live s id || is_ok done.0 && id == s.next) (wait_of s) s.running
  -- an id is so no more exactly where the thread was deleted
  pub deletes : (id : ℕ) → let done = deletes s id in
      Shows done.1 (λ other. is_live s other && not (is_ok done.0 && other == id)) (wait_of s)
      s.running
  pub starts : (id argument : ℕ) → WaitOn s (starts s id argument).1 s.running
  pub begins : (registers : Cpu) → WaitOn s (begins s registers) s.running
  pub ends_running : WaitOn s (ends_running s) None
  pub terminates : (id : ℕ) → WaitBut s (terminates s id).1 (Some id) None (running_but s id)
  pub changes : (id priority : ℕ) → WaitOn s (changes s id priority).1 s.running
  pub rotates : (priority : ℕ) (registers : Cpu)
      → WaitOn s (rotates s priority registers)
      (if has_priority priority (running_thread s) then None else s.running)
  pub blocks : (wait : Wait) (registers : Cpu)
      → WaitBut s (blocks s wait registers) s.running (Some wait) None
  pub wakes : (id answer : ℕ) → WaitBut s (wakes s id answer) (Some id) None s.running
  pub suspends : (id : ℕ) (registers : Cpu)
      → WaitOn s (suspends s id registers).1 (running_but s id)
  pub resumes : (id : ℕ) → WaitOn s (resumes s id).1 s.running
  pub wakes_up : (id : ℕ)
      → WaitBut s (wakes_up s id).1 (Some id) (after_wakeup (wait_of s id)) s.running
  pub cancels : (id : ℕ) → WaitOn s (cancels s id).1 s.running
  pub takes_wakeup : WaitOn s (takes_wakeup s).1 s.running
  pub dispatches : (registers : Cpu) (d : Dispatch) → dispatches s registers ≡ Some d
      → WaitOn s d.threads (Some d.id)

abbrev pub OperationsMoveWaits : Type 0
OperationsMoveWaits = (s : ThreadTable) → IsPlaced s → MovesWaits s
