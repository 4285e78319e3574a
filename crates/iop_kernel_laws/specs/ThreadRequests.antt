-- What the law of threads' requests says: what a service of thbase does that makes nothing and does
-- not wait: on which thread it works and with which of its words, what it answers, which ids it
-- refuses, and that nothing else changes.
use Rattle.std.specs.Prelude.{◌≡◌, ◌==◌, ◌||◌, ◌&&◌, ℕ, Bool, true, false, not, if◌then◌else◌, Option, Some, None, unwrap_or, Ok, Err}
use Rattle.iop_base.specs.declared.code.Code.{Code}
use Rattle.iop_base.specs.declared.code.TheConstants.Code.{OK, ILLEGAL_PRIORITY, ILLEGAL_THREAD, INTERRUPTS_DISABLED}
use Rattle.iop_ready.specs.Priorities.{priority_of as priority_of_word}
use Rattle.iop_services.specs.declared.thbase_service.ThbaseService.{ThbaseService}
use Rattle.iop_services.specs.declared.thbase_service.ThbaseService.TheVariants.{DeleteThread, StartThread, ExitThread, ExitDeleteThread, TerminateThread, DisableDispatchThread, EnableDispatchThread, ChangeThreadPriority, RotateThreadReadyQueue, ReleaseWaitThread, GetThreadId, WakeupThread, CancelWakeupThread, SuspendThread, ResumeThread, CancelAlarm}
use Rattle.iop_sysmem.specs.BlockMap.{freeing}
use Rattle.iop_thread.specs.Operations as threads
use Rattle.iop_thread.specs.ThreadTable.{ThreadTable, is_it, has_priority, running_thread}
use Rattle.iop_thread.specs.declared.thread.TheConstants.{LOADER}
use Rattle.iop_thread.specs.declared.wait.Wait.{Wait}
use Rattle.iop_time.specs.Timers.{cancels}
use Rattle.iop_kernel.specs.NamedThreads.{named, is_nobody_else}
use Rattle.iop_kernel.specs.System.{System, Core, Left, argument, may_switch, caller, running_registers, with_threads, with_timers, opened, answered, answers, answers_result, resumes, switches, silent, on_core}
use Rattle.iop_kernel.specs.Thbase.{serves_thbase}
use Rattle.iop_kernel.specs.Waits.{core_leaves, core_requeues}
use Rattle.iop_kernel.specs.declared.after.After.TheVariants.{ModuleReturned}

-- whether dispatch is enabled
abbrev pub with_dispatching : Core → (enabled : Bool) → Core
with_dispatching c enabled = record c { kernel = record c.kernel { dispatching = enabled } }

module _ (s : System) where
  abbrev pub old : ThreadTable
  old = s.core.kernel.threads

  abbrev pub first : ℕ
  first = argument s.core 0

  abbrev pub second : ℕ
  second = argument s.core 1

  -- a service leaves this of the kernel and its processor, and all else as it was
  abbrev pub Leaves : ThbaseService → Left Core → Type 0
  Leaves service left = serves_thbase s service ≡ silent (on_core s left)

  -- it answers a code, and leaves these threads
  abbrev pub Answers : ThbaseService → Code × ThreadTable → Type 0
  Answers service done = Leaves service (answers (with_threads s.core done.1) done.0)

  -- it answers a code, and nothing changes
  abbrev pub OnlyAnswers : ThbaseService → Code → Type 0
  OnlyAnswers service code = Leaves service (answers s.core code)

  -- and the block of a stack is freed
  abbrev pub Frees : ThbaseService → (stack : ℕ) → Left Core → Type 0
  Frees service stack left =
      serves_thbase s service
      ≡ silent (on_core (record s { blocks = (freeing s.blocks stack).1 }) left)

  -- whether the first argument is 0, or names the loader's thread
  abbrev pub names_loader : Bool
  names_loader = first == 0 || first == LOADER

  -- threads begin and end
  pub record StartsAndEnds : Type 0 where
    -- StartThread: with the word that the thread begins with
    pub start : names_loader ≡ false → Answers StartThread (threads.starts old first second)
    -- DeleteThread: with its stack
    pub delete : (stack : ℕ) (left : ThreadTable) → names_loader ≡ false
        → threads.deletes old first ≡ (Ok stack, left)
        → Frees DeleteThread stack (answers (with_threads s.core left) OK)
    pub delete_none : (code : Code) (left : ThreadTable) → names_loader ≡ false
        → threads.deletes old first ≡ (Err code, left) → OnlyAnswers DeleteThread code
    -- neither takes the loader's thread
    pub refused : names_loader ≡ true
        → OnlyAnswers StartThread ILLEGAL_THREAD × OnlyAnswers DeleteThread ILLEGAL_THREAD
    -- ExitThread and ExitDeleteThread end the caller, the second with its stack
    pub exit : (id : ℕ) → caller s.core ≡ Some id → (id == LOADER) ≡ false
        → Leaves ExitThread (switches (with_threads (opened s.core) (threads.ends_running old)))
    pub exit_delete : (id stack : ℕ) (left : ThreadTable)
        → caller s.core ≡ Some id → (id == LOADER) ≡ false
        → threads.deletes (threads.ends_running old) id ≡ (Ok stack, left)
        → Frees ExitDeleteThread stack (switches (with_threads (opened s.core) left))
    -- called by the loader's thread they return 0 from its module
    pub exit_module : caller s.core ≡ Some LOADER
        → let left : Left Core = record { state = opened s.core; after = ModuleReturned 0 } in
        Leaves ExitThread left × Leaves ExitDeleteThread left
    -- TerminateThread ends another one, which waits for nothing any more; where the one that runs
    -- is ended, by a handler, interrupts are on and dispatch is enabled
    pub terminate : (wait : Option Wait) (left : ThreadTable)
        → (is_nobody_else s.core first || first == LOADER) ≡ false
        → threads.terminates old first ≡ (Ok wait, left)
        → let now = if is_it old.running first then opened s.core else s.core in
        Leaves TerminateThread (answers (core_leaves (with_threads now left) first wait) OK)
    pub terminate_none : (code : Code) (left : ThreadTable)
        → (is_nobody_else s.core first || first == LOADER) ≡ false
        → threads.terminates old first ≡ (Err code, left) → OnlyAnswers TerminateThread code
    pub terminate_refused : (is_nobody_else s.core first || first == LOADER) ≡ true
        → OnlyAnswers TerminateThread ILLEGAL_THREAD

  -- the order of threads
  pub record Orders : Type 0 where
    -- ChangeThreadPriority of a thread, to the priority that the second word is: 0 names the caller
    pub change : (id priority : ℕ) (wait : Option Wait) (left : ThreadTable)
        → named (caller s.core) first ≡ Some id → priority_of_word second ≡ Some priority
        → threads.changes old id priority ≡ (Ok wait, left)
        → Leaves ChangeThreadPriority
        (answers (core_requeues (with_threads s.core left) id priority wait) OK)
    pub change_none : (id priority : ℕ) (code : Code) (left : ThreadTable)
        → named (caller s.core) first ≡ Some id → priority_of_word second ≡ Some priority
        → threads.changes old id priority ≡ (Err code, left) → OnlyAnswers ChangeThreadPriority code
    pub change_refused : priority_of_word second ≡ None
        → OnlyAnswers ChangeThreadPriority ILLEGAL_PRIORITY
    -- RotateThreadReadyQueue of a priority, unless the caller has it and no other may run
    pub rotate : (priority : ℕ) → priority_of_word first ≡ Some priority
        → (has_priority priority (running_thread old) && not (may_switch s.core.kernel)) ≡ false
        → let now = answered s.core 0 in
        (serves_thbase s RotateThreadReadyQueue).left.state.core
        ≡ with_threads now (threads.rotates old priority (running_registers now))
    -- DisableDispatchThread and EnableDispatchThread, where interrupts are on
    pub disable : s.core.kernel.interrupts ≡ true
        → Leaves DisableDispatchThread (answers (with_dispatching s.core false) OK)
    pub enable : s.core.kernel.interrupts ≡ true
        → Leaves EnableDispatchThread (answers (with_dispatching s.core true) OK)
    pub dispatch_refused : s.core.kernel.interrupts ≡ false
        → OnlyAnswers DisableDispatchThread INTERRUPTS_DISABLED
        × OnlyAnswers EnableDispatchThread INTERRUPTS_DISABLED

  -- what other threads wait for, and whether they are suspended
  pub record WakesAndSuspends : Type 0 where
    -- WakeupThread, ResumeThread and SuspendThread: not of the caller; nor is the thread that runs
    -- suspended, by a handler, while dispatch is disabled
    pub wakeup : is_nobody_else s.core first ≡ false
        → Answers WakeupThread (threads.wakes_up old first)
    pub resume : is_nobody_else s.core first ≡ false
        → Answers ResumeThread (threads.resumes old first)
    pub suspend : is_nobody_else s.core first ≡ false
        → (is_it old.running first && not s.core.kernel.dispatching) ≡ false
        → Answers SuspendThread (threads.suspends old first (running_registers s.core))
    pub refused : is_nobody_else s.core first ≡ true
        → OnlyAnswers WakeupThread ILLEGAL_THREAD × OnlyAnswers ResumeThread ILLEGAL_THREAD
        × OnlyAnswers SuspendThread ILLEGAL_THREAD × OnlyAnswers ReleaseWaitThread ILLEGAL_THREAD
    -- CancelWakeupThread: 0 names the caller; the wakeups that it had are answered
    pub cancel_wakeup : (id : ℕ) → named (caller s.core) first ≡ Some id
        → let done = threads.cancels old id in
        Leaves CancelWakeupThread (answers_result (with_threads s.core done.1) done.0)

-- each of them by its service
pub record ThreadRequestsAreServed : Type 0 where
  pub begin : (s : System) → StartsAndEnds s
  pub order : (s : System) → Orders s
  pub wake : (s : System) → WakesAndSuspends s
  -- GetThreadId: 0 where a handler calls
  pub id : (s : System) → Leaves s GetThreadId (resumes s.core (unwrap_or (caller s.core) 0))
  -- CancelAlarm: the alarm of a handler, the first argument, and of its argument, the second
  pub alarm : (s : System)
      → let done = cancels s.core.kernel.timers (argument s.core 0) (argument s.core 1) in
      Leaves s CancelAlarm (answers (with_timers s.core done.1) done.0)
