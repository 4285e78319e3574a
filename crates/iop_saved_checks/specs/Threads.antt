-- Whether a thread agrees with what it waits for, and with the thread that runs: this project's own
-- profile.
use Rattle.std.specs.Prelude.{ℕ, ◌==◌, nat_le, Bool, true, false, ◌&&◌, ◌||◌, not, is_some, Option, Some, None}
use Rattle.std.specs.List.{list_all, list_any}
use Rattle.iop_kernel.specs.Kinds.{table}
use Rattle.iop_kernel.specs.Placing.{is_for_delay}
use Rattle.iop_kernel.specs.System.{Kernel, may_dispatch}
use Rattle.iop_kernel.specs.Waits.{threads_of}
use Rattle.iop_objects.specs.Objects.{waiters_of}
use Rattle.iop_thread.specs.Placing.{times}
use Rattle.iop_thread.specs.States.{wait_in, sleeps, is_ready}
use Rattle.iop_thread.specs.ThreadTable.{running_thread}
use Rattle.iop_thread.specs.Waits.{wait_of}
use Rattle.iop_thread.specs.declared.state.State.{State}
use Rattle.iop_thread.specs.declared.state.State.TheVariants.{Waiting, WaitingSuspended}
use Rattle.iop_thread.specs.declared.thread.Thread.{Thread}
use Rattle.iop_thread.specs.declared.wait.Wait.{Wait}
use Rattle.iop_thread.specs.declared.wait.Wait.TheVariants.{Delay, Object}
use Rattle.iop_time.specs.Timers.{is_delay_of}

-- whether a thread that waits for a time has a delay, and one that waits for an object is once
-- among those that wait for it
abbrev pub is_awaited : Kernel → (thread : ℕ) → Option Wait → Bool
is_awaited k thread (Some Delay) = list_any (is_delay_of thread) k.timers.delays
is_awaited k thread (Some (Object kind id)) =
    times thread (threads_of (waiters_of (table kind k) id)) == 1
is_awaited k thread other = true

-- whether a thread has no wakeups if it sleeps
abbrev pub is_unwoken : Thread → Bool
is_unwoken t = not (sleeps (wait_in t.state)) || t.wakeups == 0

-- whether nothing is pending of a load where a thread waits, since it waits behind a `syscall`
abbrev pub has_loaded : State → Bool
has_loaded (Waiting wait own) = not (is_some own.pending)
has_loaded (WaitingSuspended wait own) = not (is_some own.pending)
has_loaded other = true

-- whether a thread is no better than the one that runs
abbrev pub is_behind : Thread → Option Thread → Bool
is_behind t None = false
is_behind t (Some running) = nat_le running.priority t.priority

-- whether a thread is not one that is to be dispatched now
abbrev pub is_in_turn : Kernel → Thread → Bool
is_in_turn k t =
    not (may_dispatch k && is_ready t.state) || is_behind t (running_thread k.threads)

abbrev pub thread_agrees : Kernel → Thread → Bool
thread_agrees k t =
    is_awaited k t.id (wait_in t.state) && is_unwoken t && has_loaded t.state && is_in_turn k t

unfoldable pub threads_agree : Kernel → Bool
threads_agree k = list_all (thread_agrees k) k.threads.live

-- whether each delay is that of a thread that waits for a time
unfoldable pub delays_agree : Kernel → Bool
delays_agree k = list_all (λ delay. is_for_delay (wait_of k.threads delay.thread)) k.timers.delays
