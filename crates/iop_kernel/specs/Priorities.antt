-- Whether another thread may run, the priorities of threads, and the order of those that have the
-- same one (ps2sdk: thbase.h; the codes are those of its kerr.h). The conditions and the order of
-- the refusals are this project's own profile.
use Rattle.std.specs.Prelude.{ℕ, ◌==◌, Bool, not, if◌then◌else◌, Option, Some, None, Result, Ok, Err}
use Rattle.iop_base.specs.declared.code.Code.{Code}
use Rattle.iop_base.specs.declared.code.TheConstants.Code.{OK, INTERRUPTS_DISABLED, ILLEGAL_PRIORITY, ILLEGAL_THREAD}
use Rattle.iop_ready.specs.Priorities.{priority_of as priority_of_word}
use Rattle.iop_thread.specs.Operations as threads
use Rattle.iop_thread.specs.ThreadTable.{ThreadTable, priority_of, has_priority, running_thread}
use Rattle.iop_thread.specs.declared.wait.Wait.{Wait}
use Rattle.iop_kernel.specs.NamedThreads.{named}
use Rattle.iop_kernel.specs.System.{Core, Left, may_switch, caller, running_registers, with_threads, answered, answers}
use Rattle.iop_kernel.specs.Waits.{core_requeues}
use Rattle.iop_kernel.specs.declared.after.After.{After}
use Rattle.iop_kernel.specs.declared.after.After.TheVariants.{Resume, Switch}

module _ (c : Core) where
  -- DisableDispatchThread and EnableDispatchThread
  abbrev pub set_dispatch : (enabled : Bool) → Left Core
  set_dispatch enabled =
      if c.kernel.interrupts
      then answers (record c { kernel = record c.kernel { dispatching = enabled } }) OK
      else answers c INTERRUPTS_DISABLED

  -- by what the change of the priority came to
  abbrev pub answers_change : (id priority : ℕ) → Result (Option Wait) Code × ThreadTable
      → Left Core
  answers_change id priority (Err code, threads) = answers c code
  answers_change id priority (Ok wait, threads) =
      answers (core_requeues (with_threads c threads) id priority wait) OK

  -- by the thread that is named
  abbrev pub changes_named : (priority : ℕ) → Option ℕ → Left Core
  changes_named priority None = answers c ILLEGAL_THREAD
  changes_named priority (Some id) =
      answers_change id priority (threads.changes c.kernel.threads id priority)

  -- by the priority that the word is
  abbrev pub changes_if_priority : (id : ℕ) → Option ℕ → Left Core
  changes_if_priority id None = answers c ILLEGAL_PRIORITY
  changes_if_priority id (Some priority) = changes_named priority (named (caller c) id)

  -- ChangeThreadPriority
  abbrev pub change_priority : (id word : ℕ) → Left Core
  change_priority id word = changes_if_priority id (priority_of_word word)

  -- the running thread has left the processor: a thread that calls does not go on
  abbrev pub after_leaving : Option ℕ → After
  after_leaving None = Resume
  after_leaving (Some id) = Switch

  -- the answer is 0; the running thread stays where it is while no other may run
  abbrev pub rotates_to : (priority : ℕ) → Left Core
  rotates_to priority =
      let done = answered c 0 in
      let rotated = with_threads done
      (threads.rotates c.kernel.threads priority (running_registers done)) in
      if not (has_priority priority (running_thread c.kernel.threads))
      then record { state = rotated; after = Resume }
      else if may_switch c.kernel
      then record { state = rotated; after = after_leaving (caller c) }
      else record { state = done; after = Resume }

  -- the priority of the thread that calls
  abbrev pub rotates_own : Option ℕ → Left Core
  rotates_own None = answers c ILLEGAL_PRIORITY
  rotates_own (Some id) = rotates_to (priority_of c.kernel.threads.live id)

  -- by the priority that the word is; 0 stands for that of the thread that calls
  abbrev pub rotates_by : (word : ℕ) → Option ℕ → Left Core
  rotates_by word (Some priority) = rotates_to priority
  rotates_by word None = if word == 0 then rotates_own (caller c) else answers c ILLEGAL_PRIORITY

  -- RotateThreadReadyQueue
  abbrev pub rotate_ready_queue : (word : ℕ) → Left Core
  rotate_ready_queue word = rotates_by word (priority_of_word word)
