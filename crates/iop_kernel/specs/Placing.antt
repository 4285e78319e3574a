-- Where threads and those that wait stand, at all times (ps2sdk: thread.h): a law of the services.
use Rattle.std.specs.Prelude.{◌≡◌, ℕ, ◌≤◌, ◌==◌, ◌&&◌, Bool, true, false, Option, Some, length, map, All}
use Rattle.iop_base.specs.Numbers.{one_if}
use Rattle.iop_objects.specs.Objects.{AreObjects, waiters_of}
use Rattle.iop_queues.specs.declared.queued.Queued.{Queued}
use Rattle.iop_objects.specs.declared.waiter.Waiter.{Waiter}
use Rattle.iop_thread.specs.Placing as threads
use Rattle.iop_thread.specs.Placing.{times}
use Rattle.iop_thread.specs.ThreadTable.{ThreadTable, priority_of}
use Rattle.iop_thread.specs.Waits.{wait_of}
use Rattle.iop_thread.specs.declared.kind.Kind.{Kind}
use Rattle.iop_thread.specs.declared.wait.Wait.{Wait}
use Rattle.iop_thread.specs.declared.wait.Wait.TheVariants.{Delay, Object}
use Rattle.iop_time.specs.Timers.{Timers, AreTimers}
use Rattle.iop_time.specs.declared.clock.TheConstants.{MOST_DELAYS}
use Rattle.iop_kernel.specs.Kinds.{is_kind, Table, table}
use Rattle.iop_kernel.specs.System.{Kernel}
use Rattle.iop_kernel.specs.Waits.{threads_of}

-- whether that is a time
abbrev pub is_for_delay : Option Wait → Bool
is_for_delay (Some Delay) = true
is_for_delay other = false

-- whether that is the object of a kind and of an id
abbrev pub is_for : Kind → ℕ → Option Wait → Bool
is_for kind id (Some (Object other one)) = is_kind kind other && one == id
is_for kind id other = false

-- a thread that waits stands in its queue with its priority
abbrev pub HasItsPriority : {W : Type 0} → ThreadTable → Queued (Waiter W) → Type 0
HasItsPriority threads x = x.priority ≡ priority_of threads.live x.item.thread

-- the threads that wait for the objects of a kind are those whose waits say so, each once, with its
-- priority
pub record AreWaited (kind : Kind) (s : Table kind) (threads : ThreadTable) : Type 0 where
  pub waiters : (id thread : ℕ)
      → times thread (threads_of (waiters_of s id))
      ≡ one_if (is_for kind id (wait_of threads thread))
  pub priorities : (id : ℕ) → All (HasItsPriority threads) (waiters_of s id)
  -- what holds of all objects of a kind holds
  pub sound : AreObjects s

-- the threads that wait for a time are those whose delays stand, each once
pub record AreDelayed (timers : Timers) (threads : ThreadTable) : Type 0 where
  pub delays : (thread : ℕ)
      → times thread (map (λ delay. delay.thread) timers.delays)
      ≡ one_if (is_for_delay (wait_of threads thread))
  -- what holds of every clock holds
  pub kept : AreTimers timers
  -- and each live thread has room for a delay
  pub room : length threads.live ≤ MOST_DELAYS

pub record IsPlaced (k : Kernel) : Type 0 where
  pub threads : threads.IsPlaced k.threads
  pub objects : (kind : Kind) → AreWaited kind (table kind k) k.threads
  pub delays : AreDelayed k.timers k.threads
