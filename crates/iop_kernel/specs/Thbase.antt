-- The services of thbase, each of which stands with its subject (ps2sdk: thbase.h).
use Rattle.std.specs.Prelude.{ℕ, true, false}
use Rattle.iop_services.specs.declared.thbase_service.ThbaseService.{ThbaseService}
use Rattle.iop_services.specs.declared.thbase_service.ThbaseService.TheVariants as service
use Rattle.iop_kernel.specs.Boards.{board_of, on_board}
use Rattle.iop_kernel.specs.NamedThreads.{get_thread_id}
use Rattle.iop_kernel.specs.Priorities.{set_dispatch, change_priority, rotate_ready_queue}
use Rattle.iop_kernel.specs.Stacks.{create_thread, delete_thread, exit_delete_thread, owner_of, on_owner}
use Rattle.iop_kernel.specs.System.{System, Left, Core, Served, argument, silent, on_core}
use Rattle.iop_kernel.specs.SystemClock.{delay_thread, get_system_time, set_alarm, cancel_alarm, usec_to_clock, clock_to_usec}
use Rattle.iop_kernel.specs.ThreadStarts.{start_thread, exit_thread, terminate_thread}
use Rattle.iop_kernel.specs.ThreadStatus.{refer_thread_status}
use Rattle.iop_kernel.specs.ThreadWaits.{release_wait, sleep_thread, wakeup_thread, cancel_wakeups, suspend_thread, resume_thread}

module _ (s : System) where
  -- one that looks at the kernel alone
  abbrev pub by_core : Left Core → Served
  by_core left = silent (on_core s left)

  -- the arguments
  abbrev pub word : ℕ → ℕ
  word k = argument s.core k

  -- a service of thbase
  unfoldable pub serves_thbase : ThbaseService → Served
  serves_thbase service.CreateThread = create_thread s (word 0)
  serves_thbase service.DeleteThread = silent (on_owner s (delete_thread (owner_of s) (word 0)))
  serves_thbase service.StartThread = by_core (start_thread s.core (word 0) (word 1))
  serves_thbase service.ExitThread = by_core (exit_thread s.core)
  serves_thbase service.ExitDeleteThread = silent (on_owner s (exit_delete_thread (owner_of s)))
  serves_thbase service.TerminateThread = by_core (terminate_thread s.core (word 0))
  serves_thbase service.DisableDispatchThread = by_core (set_dispatch s.core false)
  serves_thbase service.EnableDispatchThread = by_core (set_dispatch s.core true)
  serves_thbase service.ChangeThreadPriority =
      by_core (change_priority s.core (word 0) (word 1))
  serves_thbase service.RotateThreadReadyQueue = by_core (rotate_ready_queue s.core (word 0))
  serves_thbase service.ReleaseWaitThread = by_core (release_wait s.core (word 0))
  serves_thbase service.GetThreadId = by_core (get_thread_id s.core)
  serves_thbase service.ReferThreadStatus = refer_thread_status s (word 0) (word 1)
  serves_thbase service.SleepThread = by_core (sleep_thread s.core)
  serves_thbase service.WakeupThread = by_core (wakeup_thread s.core (word 0))
  serves_thbase service.CancelWakeupThread = by_core (cancel_wakeups s.core (word 0))
  serves_thbase service.SuspendThread = by_core (suspend_thread s.core (word 0))
  serves_thbase service.ResumeThread = by_core (resume_thread s.core (word 0))
  serves_thbase service.DelayThread = by_core (delay_thread s.core (word 0))
  serves_thbase service.GetSystemTime = on_board s (get_system_time (board_of s) (word 0))
  serves_thbase service.SetAlarm =
      by_core (set_alarm s.core s.memory (word 0) (word 1) (word 2))
  serves_thbase service.CancelAlarm = by_core (cancel_alarm s.core (word 0) (word 1))
  serves_thbase service.USec2SysClock =
      on_board s (usec_to_clock (board_of s) (word 0) (word 1))
  serves_thbase service.SysClock2USec =
      on_board s (clock_to_usec (board_of s) (word 0) (word 1) (word 2))
