-- Threads and waiters stay placed when other threads stand in the kernel, or when only what is
-- beside them changes.
use Rattle.std.proofs.Common.{◌≡◌, ℕ, ◌≤◌, Bool, true, Option, List, length, ap, ◌∙◌, subst}
use Rattle.iop_intr.specs.declared.irq_line.IrqLine.{IrqLine}
use Rattle.iop_thread.specs.Laws.{KeepsPlaces}
use Rattle.iop_thread.specs.Placing as threads_placing
use Rattle.iop_thread.specs.Placing.{times}
use Rattle.iop_thread.specs.ThreadTable.{ThreadTable}
use Rattle.iop_thread.specs.Waits.{MovesWaits, WaitOn, is_live}
use Rattle.iop_thread.proofs.Placed.{keeps_places}
use Rattle.iop_thread.proofs.Waits.{moves_waits}
use Rattle.iop_time.specs.Timers.{Timers, AreTimers}
use Rattle.iop_time.specs.declared.clock.TheConstants.{MOST_DELAYS}
use Rattle.iop_kernel.specs.Placing.{IsPlaced}
use Rattle.iop_kernel.specs.System.{Kernel, Core}
use Rattle.iop_kernel.specs.ThreadStarts.{ended}
use Rattle.iop_kernel.specs.declared.active_handler.ActiveHandler.{ActiveHandler}
use Rattle.iop_kernel.proofs.Placing.Live.{live_room}
use Rattle.iop_kernel.proofs.Placing.Priorities.{KeepPriorities, KeepsPriorities, keeps_priorities}
use Rattle.iop_kernel.proofs.Placing.Queues.{delayed}
use Rattle.iop_kernel.proofs.Placing.Threads.{stand}

-- what holds of the second part of what an operation answers holds of what it is
pub second : {A B : Type 0} (Holds : B → Type 0) {r : A × B} {a : A} {b : B} → r ≡ (a, b)
    → Holds r.1 → Holds b
second Holds is = subst Holds (ap (λ x. x.1) is)

-- the kernel's threads stay placed
abbrev pub places : (k : Kernel) → IsPlaced k → KeepsPlaces k.threads
places k h = keeps_places k.threads h.threads

-- what an operation does to their waits
abbrev pub moves : (k : Kernel) → IsPlaced k → MovesWaits k.threads
moves k h = moves_waits k.threads h.threads

-- where the same threads are live there is room for a delay of each
pub same_live : (k : Kernel) → IsPlaced k → {left : ThreadTable} → threads_placing.IsPlaced left
    → ((id : ℕ) → is_live left id ≡ is_live k.threads id) → length left.live ≤ MOST_DELAYS
same_live k h {left} placed live = live_room k.threads left placed live h.delays.room

-- and to the priorities of those that wait
abbrev pub keeps : (k : Kernel) → IsPlaced k → KeepsPriorities k.threads
keeps k h = keeps_priorities k.threads h.threads

-- the same threads are live, and each waits on with its priority: they stand in place of the
-- kernel's
pub stand_on : (k : Kernel) → IsPlaced k → {left : ThreadTable} {running : Option ℕ}
    → threads_placing.IsPlaced left → WaitOn k.threads left running
    → KeepPriorities k.threads left → IsPlaced (record k { threads = left })
stand_on k h placed on keep = stand k h placed (same_live k h placed on.live) on.waits keep

-- so do those that an operation answers
pub comes : (k : Kernel) {A : Type 0} {r : A × ThreadTable} {a : A} {left : ThreadTable}
    → r ≡ (a, left) → IsPlaced (record k { threads = r.1 }) → IsPlaced (record k { threads = left })
comes k = second (λ left. IsPlaced (record k { threads = left }))

-- nothing changes but the moment, whether another thread may run, the handler and the lines
pub beside_placed : {k : Kernel} (clock : ℕ) (interrupts dispatching : Bool)
    (handler : Option ActiveHandler) (irqs : List IrqLine) → IsPlaced k
    → IsPlaced (record k {
      clock = clock;
      interrupts = interrupts;
      dispatching = dispatching;
      handler = handler;
      irqs = irqs;
    })
beside_placed clock interrupts dispatching handler irqs h = record {
  threads = h.threads;
  objects = h.objects;
  delays = h.delays;
}

-- interrupts are on and dispatch is enabled
pub open_placed : (k : Kernel) → IsPlaced k
    → IsPlaced (record k { interrupts = true; dispatching = true })
open_placed k h = beside_placed _ _ _ _ _ h

-- the alarms are others
pub timers_placed : {k : Kernel} (timers : Timers) → AreTimers timers
    → timers.delays ≡ k.timers.delays → IsPlaced k → IsPlaced (record k { timers = timers })
timers_placed timers kept same h = record {
  threads = h.threads;
  objects = h.objects;
  delays = record {
    delays = λ t. ap (λ ds. times t (delayed ds)) same ∙ h.delays.delays t;
    kept = kept;
    room = h.delays.room;
  };
}

-- the thread that runs has ended
pub ended_places : (c : Core) → IsPlaced c.kernel → IsPlaced (ended c).kernel
ended_places c h =
    stand_on _ (open_placed c.kernel h) (places c.kernel h).ends_running
    (moves c.kernel h).ends_running (keeps c.kernel h).ends_running

-- the moment is another
pub clock_place : (k : Kernel) (moment : ℕ) → IsPlaced k → IsPlaced (record k { clock = moment })
clock_place k moment h = beside_placed _ _ _ _ _ h
