-- How threads wait, are woken, suspended and resumed (ps2sdk: thbase.h; the codes are those of its
-- kerr.h). The conditions and the order of the refusals are this project's own profile.
use Rattle.std.specs.Prelude.{ℕ, Bool, true, false, not, ◌&&◌, if◌then◌else◌, Option, Some, None}
use Rattle.iop_base.specs.declared.code.TheConstants.Code.{OK, ILLEGAL_THREAD, UNKNOWN_THREAD, NOT_WAITING, CANNOT_WAIT, WAIT_RELEASED}
use Rattle.iop_thread.specs.Operations as threads
use Rattle.iop_thread.specs.States.{wait_in}
use Rattle.iop_thread.specs.ThreadTable.{ThreadTable, thread_of, is_it}
use Rattle.iop_thread.specs.declared.thread.Thread.{Thread}
use Rattle.iop_thread.specs.declared.wait.Wait.{Wait}
use Rattle.iop_thread.specs.declared.wait.Wait.TheVariants.{Sleep}
use Rattle.iop_kernel.specs.Answering.{leaves_code}
use Rattle.iop_kernel.specs.NamedThreads.{named, is_nobody_else}
use Rattle.iop_kernel.specs.System.{Core, Left, may_switch, caller, running_registers, with_threads, answers, answers_result, switches}
use Rattle.iop_kernel.specs.Waits.{core_leaves, wakes_with}

module _ (c : Core) where
  -- by the wait that the thread has
  abbrev pub releases_from : (id : ℕ) → Option Wait → Left Core
  releases_from id None = answers c NOT_WAITING
  releases_from id (Some wait) =
      answers (core_leaves (wakes_with c id WAIT_RELEASED) id (Some wait)) OK

  -- by the thread of the id
  abbrev pub releases_it : Option Thread → Left Core
  releases_it None = answers c UNKNOWN_THREAD
  releases_it (Some t) = releases_from t.id (wait_in t.state)

  -- ReleaseWaitThread: the wait of another thread ends
  abbrev pub release_wait : (id : ℕ) → Left Core
  release_wait id =
      if is_nobody_else c id then answers c ILLEGAL_THREAD
      else releases_it (thread_of c.kernel.threads.live id)

  -- the thread that calls waits
  abbrev pub waits : Wait → Left Core
  waits wait =
      switches (with_threads c (threads.blocks c.kernel.threads wait (running_registers c)))

  -- it waits to be woken, unless it has a wakeup, of which it takes one
  abbrev pub sleeps_by : Bool × ThreadTable → Left Core
  sleeps_by (true, threads) = answers (with_threads c threads) OK
  sleeps_by (false, threads) = waits Sleep

  -- SleepThread
  abbrev pub sleep_thread : Left Core
  sleep_thread =
      if may_switch c.kernel then sleeps_by (threads.takes_wakeup c.kernel.threads)
      else answers c CANNOT_WAIT

  -- WakeupThread
  abbrev pub wakeup_thread : (id : ℕ) → Left Core
  wakeup_thread id =
      if is_nobody_else c id then answers c ILLEGAL_THREAD
      else leaves_code c (threads.wakes_up c.kernel.threads id)

  -- by the thread that is named
  abbrev pub cancels_of : Option ℕ → Left Core
  cancels_of None = answers c ILLEGAL_THREAD
  cancels_of (Some id) =
      let done = threads.cancels c.kernel.threads id in
      answers_result (with_threads c done.1) done.0

  -- CancelWakeupThread
  abbrev pub cancel_wakeups : (id : ℕ) → Left Core
  cancel_wakeups id = cancels_of (named (caller c) id)

  -- SuspendThread: the running thread is not suspended while dispatch is disabled
  abbrev pub suspend_thread : (id : ℕ) → Left Core
  suspend_thread id =
      if is_nobody_else c id then answers c ILLEGAL_THREAD
      else if is_it c.kernel.threads.running id && not c.kernel.dispatching
      then answers c CANNOT_WAIT
      else leaves_code c (threads.suspends c.kernel.threads id (running_registers c))

  -- ResumeThread
  abbrev pub resume_thread : (id : ℕ) → Left Core
  resume_thread id =
      if is_nobody_else c id then answers c ILLEGAL_THREAD
      else leaves_code c (threads.resumes c.kernel.threads id)
